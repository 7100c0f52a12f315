-- The configuration of a generated job: two domains, sixteen chains, a ring of sixteen stages on two channels. The phase sum of chain c is
-- over the stages c, c + 5 and c + 11, by 16; one output sums the even chains, another the odd ones.
use Rattle.std.specs.Prelude.{◌++◌, ◌∷◌, [], codes}
use Rattle.dft_base.specs.Lexing.{Text}
use Rattle.dft_config.specs.Config.{Config}
use Rattle.dft_config.specs.declared.config.FillRule.TheVariants.{Zeros}

unfoldable pub configuration_text : Text
configuration_text =
    codes "version = 1\ndomains = [\"clk0\", \"clk1\"]\n"
    ++ (codes "chains = 16\nwarm = 16\nwindow = 8\nfill = \"zeros\"\n"
    ++ (codes "\n[ring]\nstages = 16\nchannels = 2\n"
    ++ (codes "taps = [[3, 12], [6, 9]]\ninjectors = [[0, 0], [1, 8]]\n"
    ++ (codes "phase = [[0, 5, 11], [1, 6, 12], [2, 7, 13], [3, 8, 14], "
    ++ (codes "[4, 9, 15], [5, 10, 0], [6, 11, 1], [7, 12, 2], "
    ++ (codes "[8, 13, 3], [9, 14, 4], [10, 15, 5], [11, 0, 6], "
    ++ (codes "[12, 1, 7], [13, 2, 8], [14, 3, 9], [15, 4, 10]]\n" ++ (codes "\n[compactor]\ngroups = [[0, 2, 4, 6, 8, 10, 12, 14], " ++ codes "[1, 3, 5, 7, 9, 11, 13, 15]]\nmask_inputs = 2\n"))))))))

-- the configuration that it stands for
abbrev pub configuration : Config
configuration = record {
  domains = codes "clk0" ∷ codes "clk1" ∷ [];
  resets = [];
  keep = [];
  chains = 16;
  warm = 16;
  window = 8;
  fill = Zeros;
  always_masked = [];
  ring = record {
    stages = 16;
    channels = 2;
    taps = record { from = 3; to = 12 } ∷ record { from = 6; to = 9 } ∷ [];
    injectors = record { channel = 0; stage = 0 } ∷ record { channel = 1; stage = 8 } ∷ [];
    phase = (0 ∷ 5 ∷ 11 ∷ []) ∷ (1 ∷ 6 ∷ 12 ∷ []) ∷ (2 ∷ 7 ∷ 13 ∷ []) ∷ (3 ∷ 8 ∷ 14 ∷ []) ∷ (4 ∷ 9 ∷ 15 ∷ []) ∷ (5 ∷ 10 ∷ 0 ∷ []) ∷ (6 ∷ 11 ∷ 1 ∷ []) ∷ (7 ∷ 12 ∷ 2 ∷ []) ∷ (8 ∷ 13 ∷ 3 ∷ []) ∷ (9 ∷ 14 ∷ 4 ∷ []) ∷ (10 ∷ 15 ∷ 5 ∷ []) ∷ (11 ∷ 0 ∷ 6 ∷ []) ∷ (12 ∷ 1 ∷ 7 ∷ []) ∷ (13 ∷ 2 ∷ 8 ∷ []) ∷ (14 ∷ 3 ∷ 9 ∷ []) ∷ (15 ∷ 4 ∷ 10 ∷ []) ∷ [];
  };
  compactor = record { groups = (0 ∷ 2 ∷ 4 ∷ 6 ∷ 8 ∷ 10 ∷ 12 ∷ 14 ∷ []) ∷ (1 ∷ 3 ∷ 5 ∷ 7 ∷ 9 ∷ 11 ∷ 13 ∷ 15 ∷ []) ∷ []; mask_inputs = 2 };
  names = record {
    scan_enable = codes "scan_enable";
    edt_clock = codes "edt_clock";
    edt_update = codes "edt_update";
    channel = codes "edt_in";
    mask = codes "edt_mask";
    output = codes "edt_out";
    scan_in = codes "scan_in";
    scan_out = codes "scan_out";
  };
}
