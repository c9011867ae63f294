-- A text as the code has it. Assumes nothing.
use Rattle.text.specs.Text.{Buffer, buffer}
use Rattle.text.specs.declared.Text.{Text}

-- the bytes of its buffer, and the place behind what was written
abbrev pub state : Text → Buffer
state t = buffer t.bytes.now t.at
