-- The line of comment above a made configuration.
use Rattle.std.specs.Prelude.{ℕ, ◌≡◌, ◌<◌, ◌^◌, ◌++◌}
use Rattle.dft_base.specs.Lexing.{Text}
use Rattle.toml_parser.specs.Lexical.{skip_blank}
use Rattle.dft_config_out.specs.Written.{head_text}

-- A reader of TOML skips the line.
abbrev pub HeadIsSkipped : Type 0
HeadIsSkipped = (cells chains : ℕ) (rest : Text) → cells < 2 ^ 64 → chains < 2 ^ 64 → skip_blank (head_text cells chains ++ rest) ≡ skip_blank rest
