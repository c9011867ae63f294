-- What question 11 asks: its test says what it means. Assumes nothing.
use Rattle.std.proofs.Common.{ℕ, T}
use Rattle.base.proofs.BoolLaws.{and_left, and_right, and_both}
use Rattle.construction.specs.Construction.{between, max_nodes}
use Rattle.construction.proofs.RangeLaws.{between_of, between_in}
use Rattle.decision.specs.Verdict.{max_profiles, within_capacity}
use Rattle.decision.specs.Lends.{Capacity}

pub capacity_of : (N M : ℕ) → T (within_capacity N M) → Capacity N M
capacity_of N M h =
    let p = between_of 1 max_nodes N (and_left (between 1 max_nodes N) (between 1 max_profiles M) h) in
    let q = between_of 1 max_profiles M (and_right (between 1 max_nodes N) (between 1 max_profiles M) h) in
    record { some_nodes = p.0; few_nodes = p.1; some_profiles = q.0; few_profiles = q.1 }

pub capacity_in : (N M : ℕ) → Capacity N M → T (within_capacity N M)
capacity_in N M c =
    and_both (between 1 max_nodes N) (between 1 max_profiles M) (between_in 1 max_nodes N c.some_nodes c.few_nodes)
    (between_in 1 max_profiles M c.some_profiles c.few_profiles)
