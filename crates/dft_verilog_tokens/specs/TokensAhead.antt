-- What the cursor over the tokens of a netlist text shows, and what it keeps ready.
use Rattle.std.specs.Prelude.{◌≡◌, ◌<◌, ◌≤◌, List, true, length, take, drop}
use Rattle.dft_base.specs.Lexing.{tokens_from}
use Rattle.dft_base.specs.Name.{IsName}
use Rattle.dft_netlist_text.specs.Lexemes.{Token, front, lexeme, blank_len}
use Rattle.dft_verilog_tokens.specs.declared.blanks.TheConstants.{MAX_TEXT}
use Rattle.dft_verilog_tokens.specs.declared.cursor.Tokens.TheInside.{Inside}
use Rattle.dft_verilog_tokens.specs.Cut.{shown, carries_name}

-- the tokens of the text ahead, behind a base or not
abbrev pub tokens_ahead : Inside → List Token
tokens_ahead t = tokens_from front t.behind_base 0 t.ahead.now

-- the text ahead is short, it begins with no blank, and its first token is cut
pub record IsReady (t : Inside) : Type 0 where
  pub begins : blank_len t.ahead.now ≡ 0
  pub cut : shown t.front ≡ lexeme t.behind_base t.ahead.now
  pub within : t.front.len ≤ length t.ahead.now
  pub moves : 0 < length t.ahead.now → 0 < t.front.len
  pub placed : t.front.at ≤ length t.ahead.now
  pub inside : t.front.at < length t.ahead.now → t.front.at < t.front.len
  pub named : t.front.prefix ≤ t.front.len
  pub name : carries_name t.front.kind ≡ true → IsName (drop t.front.prefix (take t.front.len t.ahead.now))
  pub short : length t.ahead.now ≤ MAX_TEXT
