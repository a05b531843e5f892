-- The text that the program hands on to be written, for what it has read: "reads at most 4,096 bytes"; the tables have
-- 1,024 and 2,048 places. Assumes nothing.
use Rattle.std.specs.Prelude.{ℕ, List, take}
use Rattle.model.specs.Translate.{translate}
use Rattle.text.specs.Text.{text_of}

abbrev pub printed : List ℕ → List ℕ
printed s = text_of (translate (take 4096 s) 32768 65536)
