-- Transitions one after another, taken apart from the front: the node before each of them, and what a run carries on. Runs from the
-- root and the runs of profiles, which grow at their end, are such walks. Assumes nothing.
use mathlib.Core.Path.{◌≡◌, refl, sym, ap, ◌∙◌}
use mathlib.Core.List.{List, [], ◌∷◌, ◌++◌, map, Memᴰ}
use Prim.Native.Nat.{ℕ, zero, suc, ◌<◌}
use native.Mathlib.Omega.{arith}
use lib.Dec.{T}
use lib.ListN.{length, get_or}
use Rattle.base.specs.Lists.{all}
use Rattle.base.proofs.BoolLaws.{and_both}
use Rattle.letters.specs.Alphabet.{in_alphabet}
use Rattle.letters.proofs.LetterLaws.{nothing-required}
use Rattle.formula.specs.Table.{Table}
use Rattle.tableau.specs.Saturation.{Subset}
use Rattle.tableau.specs.Transition.{Transition, letter, transitions}
use Rattle.tableau.proofs.TransitionLaws.{facts, letter-in_alphabet}
use Rattle.profile.specs.Traces.{Triple, triples, join}
use Rattle.profile.specs.Profiles.{Profile}
use Rattle.tableau.specs.Run.{Along}
use Rattle.profile.specs.Cycle.{Run}

abbrev pub no_transition : Transition
no_transition = record { choice = []; required = nothing-required; to = [] }

abbrev pub transition_at : List Transition → ℕ → Transition
transition_at ss i = get_or ss i no_transition

-- the node before transition i
abbrev pub node_at : Subset → List Transition → ℕ → Subset
node_at v ss zero = v
node_at v [] (suc i) = v
node_at v (s ∷ ss) (suc i) = node_at s.to ss i

module _ (t : Table) where
  pub data Walk : Subset → List Transition → Subset → Type 0 where
    stop : {v : Subset} → Walk v [] v
    go : {v u : Subset} {s : Transition} {ss : List Transition} → Memᴰ s (transitions t v) → Walk s.to ss u → Walk v (s ∷ ss) u

  walk_more : {v u : Subset} {s : Transition} {ss : List Transition} → Walk v ss u → Memᴰ s (transitions t u)
      → Walk v (ss ++ (s ∷ [])) s.to
  walk_more stop m = go m stop
  walk_more (go n a) m = go n (walk_more a m)

  pub along_walk : {v u : Subset} {ss : List Transition} → Along t v ss u → Walk v ss u
  along_walk Along.stay = stop
  along_walk (Along.on a m) = walk_more (along_walk a) m

  -- the transition at i leads from the node before it to the next one
  pub walk_step : {v u : Subset} {ss : List Transition} → Walk v ss u → (i : ℕ) → i < length ss
      → Memᴰ (transition_at ss i) (transitions t (node_at v ss i)) × (node_at v ss (suc i) ≡ (transition_at ss i).to)
  walk_step stop i h = absurd (omega arith)
  walk_step (go m a) zero h = (m, refl)
  walk_step (go m a) (suc i) h = walk_step a i (omega arith)

  pub walk_end : {v u : Subset} {ss : List Transition} → Walk v ss u → node_at v ss (length ss) ≡ u
  walk_end stop = refl
  walk_end (go m a) = walk_end a

  pub walk-join : {v u x : Subset} {ss rs : List Transition} → Walk v ss u → Walk u rs x → Walk v (ss ++ rs) x
  walk-join stop b = b
  walk-join (go m a) b = go m (walk-join a b)

  pub walk_seam : {v u : Subset} {ss : List Transition} (rs : List Transition) → Walk v ss u → node_at v (ss ++ rs) (length ss) ≡ u
  walk_seam rs stop = refl
  walk_seam rs (go m a) = walk_seam rs a

  -- the letters of a walk are in the alphabet
  pub walk-letters : {v u : Subset} {ss : List Transition} → Walk v ss u → T (all in_alphabet (map letter ss))
  walk-letters stop = tt
  walk-letters {v} (go {s = s} {ss} m a) =
      and_both (in_alphabet (letter s)) (all in_alphabet (map letter ss)) (letter-in_alphabet t v m) (walk-letters a)

  -- a node has a Bool for each subformula
  pub walk-length : {v u : Subset} {ss : List Transition} → Walk v ss u → length v ≡ length t → (i : ℕ) → length (node_at v ss i) ≡ length t
  walk-length stop h zero = h
  walk-length stop h (suc i) = h
  walk-length (go m a) h zero = h
  walk-length {v} (go {s = s} m a) h (suc i) = walk-length a (facts t v h s m).long i

  -- the triples xs of a run to node v, and of the transitions that it goes on by
  abbrev pub carry : Subset → List Triple → List Transition → List Triple
  carry v xs [] = xs
  carry v xs (s ∷ ss) = carry s.to (join t xs (triples t v s.choice)) ss

  carry_more : {v u : Subset} {ss : List Transition} → Walk v ss u → (xs : List Triple) (s : Transition)
      → carry v xs (ss ++ (s ∷ [])) ≡ join t (carry v xs ss) (triples t u s.choice)
  carry_more stop xs s = refl
  carry_more {v} (go {s = r} n a) xs s = carry_more a (join t xs (triples t v r.choice)) s

  -- a run of one or more transitions: the first one, and the others
  pub record Split (p : Profile) (n : List Transition) : Type 0 where
    pub s : Transition
    pub ss : List Transition
    pub is : n ≡ s ∷ ss
    pub walk : Walk p.first (s ∷ ss) p.last
    pub rest : Walk s.to ss p.last
    pub triple_set : p.triple_set ≡ carry s.to (triples t p.first s.choice) ss

  pub run_split : {p : Profile} {n : List Transition} → Run t p n → Split p n
  run_split (Run.one {s = s} m) = record { s = s; ss = []; is = refl; walk = go m stop; rest = stop; triple_set = refl }
  run_split (Run.more {p} {ss} {s} r m) =
      let q = run_split r in
      record {
        s = q.s;
        ss = q.ss ++ (s ∷ []);
        is = ap (λ (l : List Transition). l ++ (s ∷ [])) q.is;
        walk = walk_more q.walk m;
        rest = walk_more q.rest m;
        triple_set =
            ap (λ (l : List Triple). join t l (triples t p.last s.choice)) q.triple_set
            ∙ sym (carry_more q.rest (triples t p.first q.s.choice) s);
      }
