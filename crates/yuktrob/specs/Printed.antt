-- What the program prints for a formula: MEANING 6. Assumes nothing.
use Rattle.std.specs.Prelude.{◌≡◌, List, ℕ, ◌≤◌, length, take}
use Rattle.text.specs.Text.{buffer, Wrote}
use Rattle.decision.specs.Verdict.{workspace_size, witness_size, verdict}
use Rattle.verdict_text.specs.Texts.{shown_text}

-- The capacities of MEANING 6.1: so many nodes,
abbrev pub nodes : ℕ
nodes = 256

-- so many profiles.
abbrev pub profiles : ℕ
profiles = 300

-- the text of the verdict, with areas as large as the questions 12 and 13 ask
abbrev pub printed : (bytes : List ℕ) → List ℕ
printed bytes = shown_text (verdict nodes profiles (workspace_size nodes profiles) (witness_size nodes profiles) bytes)

-- The formula's bytes, the buffer before and after, and the end of what was written. In a buffer of 4,096 bytes the text stands whole.
pub record Printed (bytes out out' : List ℕ) (end : ℕ) : Type 0 where
  pub wrote : Wrote (buffer out 0) (printed bytes) (buffer out' end)
  pub whole : 4096 ≤ length out → take end out' ≡ printed bytes
