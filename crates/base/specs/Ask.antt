-- Questions asked one after another. A list of them reads from the first to the last, each with its refusal, and then what comes after:
--     ask first refusal-1 (ask second refusal-2 (.. answer)).
-- The first that is answered by no gives its refusal. Assumes nothing.
use Rattle.std.specs.Prelude.{Bool, cond}

-- one question: its refusal if the answer is no, else what comes after it
abbrev pub ask : {A : Type 0} → Bool → (refusal next : A) → A
ask question refusal next = cond question next refusal
