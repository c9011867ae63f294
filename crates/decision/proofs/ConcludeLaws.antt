-- The answer from what the search came to. The profiles that are kept agree with the definition's one for one, so the first accepting one
-- kept is the first accepting one of the definition, the letters along the notes from it are those of its way, and those of the stem are
-- those of the way to its first node. It stands in the last layer, so all that are kept are the profiles of runs no longer than its own:
-- what the definition counts. Where there is no room for a layer, and none before it has an accepting profile, the definition counts at
-- least the profiles up to this layer, whether or not it finds an accepting one behind them. Assumes nothing.
use Rattle.std.proofs.Common.{◌≡◌, refl, sym, ap, ◌∙◌, Bool, true, false, List, [], ◌++◌, map, ℕ, suc, ◌+◌, ◌≤◌, ◌<◌, arith, T, length}
use Rattle.std.proofs.Common.{length-append, drop, Ok}
use Rattle.std.proofs.Math.ListN.{length-map}
use Rattle.std.specs.Prelude as prelude
use Rattle.std.proofs.Math.Option.{Option, none, some}
use Rattle.std.proofs.Math.Path.{subst⁻¹}
use Rattle.std.proofs.lemmas.List.{map-append}
use Rattle.base.proofs.BoolLaws.{to_T, of_T}
use Rattle.base.proofs.At.{At, at_lt, at_get, at_in, at_one, at_unmap}
use Rattle.base.proofs.WithinLaws.{within-few, within_more}
use Rattle.base.proofs.LayerLaws.{Parted}
use Rattle.base.specs.Search.{Item, within}
use Rattle.formula.specs.Table.{Table}
use Rattle.tableau.specs.Saturation.{Subset}
use Rattle.tableau.specs.Transition.{Transition, letter}
use Rattle.tableau.specs.Nodes.{nodes, stem_to}
use Rattle.tableau.specs.Inner.{table_of}
use Rattle.tableau.specs.Area.{reachable}
use Rattle.tableau.specs.Origins.{way_letters}
use Rattle.tableau.proofs.NodeLaws.{stem_of}
use Rattle.profile.specs.Profiles as literal
use Rattle.profile_tables.specs.Runs.{FoundProfile, singles, profiles_from, profiles, count_within, accepting}
use Rattle.profile_tables.proofs.NodeNumbers.{sets}
use Rattle.profile_tables.proofs.RunLaws.{ItemListed}
use Rattle.profile_tables.proofs.AgreeLaws.{ProfilesAgree, SearchAgrees, agrees, first-accepting, first-behind, none-accepting}
use Rattle.profile_search.specs.Stored.{stored, record_of, first_of}
use Rattle.profile_search.specs.declared.placed.Store.{Store}
use Rattle.profile_search.proofs.GrowLaws.{stored-length, record_at}
use Rattle.cycle_search.specs.Layers.{Layers, found_by, ComesTo}
use Rattle.cycle_search.specs.declared.Sought.{Sought}
use Rattle.witness.specs.Letters.{stem_letters, cycle_letters, over, WitnessReady, WitnessWritten}
use Rattle.witness.specs.declared.Lengths.{Lengths}
use Rattle.witness.proofs.StemLaws.{origins-noted, stem_is}
use Rattle.witness.proofs.CycleLaws.{counterpart, agreed_linked, cycle_is}
use Rattle.decision.specs.Verdict.{counted, conclude}
use Rattle.construction.specs.Construction.{node_count}
use Rattle.decision.specs.Contract.{Answer}
use Rattle.decision.specs.declared.Verdict.TheVariants.{Satisfiable, Unsatisfiable}
use Rattle.decision.specs.Inner.{Decoded, Profiled, Ready, Told, Answers, found_in, needed, concluded, onward}
use Rattle.decision.proofs.SettleLaws.{answers_15, answers-on}

abbrev letters : List Transition → List ℕ
letters ss = map letter ss

-- the letters of the way to node j are those of the stem to its set, as no node is listed twice
way-stem : (t : Table) {j : ℕ} {v : Subset} → At (sets (nodes t)) j v → way_letters t j ≡ letters (stem_to v (nodes t))
unfolding nodes
way-stem t {j} a =
    let (x, b, e) = at_unmap (λ (n : Item Transition Subset). n.at) (nodes t) a in
    ap (λ (n : Item Transition Subset). letters n.way) (at_get b (record { way = []; at = [] }))
    ∙ ap letters (sym (stem_of t (at_in b)))
    ∙ ap (λ (u : Subset). letters (stem_to u (nodes t))) e

-- a buffer over which the letters of two runs are written
over_runs : (stem cycle : List Transition) {xs ys : List ℕ} (l : List ℕ) → xs ≡ letters stem → ys ≡ letters cycle
    → over (xs ++ ys) l ≡ letters (stem ++ cycle) ++ drop (length stem + length cycle) l
over_runs stem cycle {xs} {ys} l p q =
    ap (λ (ws : List ℕ). over ws l) whole
    ∙ ap (λ (k : ℕ). letters (stem ++ cycle) ++ drop k l)
    (length-map (stem ++ cycle) letter ∙ length-append stem cycle)
  where
    whole : xs ++ ys ≡ letters (stem ++ cycle)
    whole = ap (λ (zs : List ℕ). zs ++ ys) p ∙ ap (λ (zs : List ℕ). letters stem ++ zs) q
        ∙ sym (map-append letter stem cycle)

never : {b : Bool} → b ≡ false → T b → ⊥
never {b} e h =
    let z : true ≡ false = sym (of_T b h) ∙ e in
    let w : ◌≡◌ {A = ℕ} 0 1 = cc in
    omega arith

-- the search over the table that was read agrees with the definition's
decoded_agrees : {rows : List ℕ} {count : ℕ} → Decoded rows count → SearchAgrees (table_of rows count)
decoded_agrees d = subst⁻¹ SearchAgrees d.is (agrees d.bytes d.formula d.parsed)

module _ {rows : List ℕ} {count : ℕ} {origins area : List ℕ} {s : Store} {K : ℕ} {found : prelude.Option Sought}
    (h : Profiled rows count origins area s K found)
  where
    abbrev t : Table
    t = table_of rows count

    abbrev of : ℕ → FoundProfile
    of = record_of s area

    abbrev listed : List ItemListed
    listed = literal.profiles t (nodes t)

    abbrev ones : List FoundProfile
    ones = singles t (reachable t)

    -- the ends of the layers
    abbrev end : ℕ → ℕ
    end l = count_within s.n ones l

    -- the store is over the table's operands of next
    turns_are : (k : ℕ) → profiles_from k s.n ones ≡ profiles k t (reachable t)
    unfolding profiles
    turns_are k = ap (λ (n : ℕ). profiles_from k n ones) h.operands_are

    agree : (k : ℕ) → ProfilesAgree t (profiles_from k s.n ones) listed
    agree k = subst⁻¹ (λ (l : List FoundProfile). ProfilesAgree t l listed) (turns_are k) ((decoded_agrees h.decoded).agree k)

    parted : (l : ℕ) → Parted listed (end l) l
    parted l = subst⁻¹ (λ (n : ℕ). Parted listed (count_within n ones l) l) h.operands_are ((decoded_agrees h.decoded).parted l)

    end_is : (l : ℕ) → end l ≡ length (within l listed)
    end_is l = ap (λ (n : ℕ). count_within n ones l) h.operands_are ∙ (decoded_agrees h.decoded).counts l

    -- The store has the first l + 1 layers.
    module _ {l from all : ℕ} (y : Layers (accepting t) s ones area l from all) where
      agreed : ProfilesAgree t (stored s area all) listed
      agreed = subst⁻¹ (λ (l : List FoundProfile). ProfilesAgree t l listed) y.records (agree from)

      -- what the code finds of a kept profile is so of the profile
      none_kept : {k : ℕ} → k ≤ all → ((i : ℕ) → i < k → accepting t (of i) ≡ false) → (j : ℕ) (x : FoundProfile)
          → At (stored s area all) j x → j < k → T (accepting t x) → ⊥
      none_kept r f j x c m =
          never (ap (accepting t) (at_one c (record_at s area all j (omega arith))) ∙ f j m)

      -- Profile p is the first accepting one, and in the last layer.
      module _ {p : ℕ} (low : p < all) (passes : accepting t (of p) ≡ true) (before : (i : ℕ) → i < p → accepting t (of i) ≡ false)
          (late : from ≤ p) where
        -- its counterpart in the definition
        abbrev item : ItemListed
        item = (counterpart s area all agreed p low).item

        first-at : At (sets (nodes t)) (first_of s area p) item.at.first
        first-at = (counterpart s area all agreed p low).first

        is_found : found_in t ≡ some item
        is_found =
            first-accepting agreed (record_at s area all p low) (to_T (accepting t (of p)) passes)
            (λ j x c m. none_kept (omega (arith, low)) before j x c m)

        cycle-length : length item.way ≡ suc l
        cycle-length =
            let stands = (counterpart s area all agreed p low).stands in
            omega (
              arith,
              (parted l).high p item stands (omega (arith, y.from_is, late)),
              (parted (suc l)).low p item stands (omega (arith, y.all_is, low)),
            )

        all-counted : all ≡ length (within (length item.way) listed)
        all-counted = y.all_is ∙ end_is (suc l) ∙ ap (λ (n : ℕ). length (within n listed)) (sym cycle-length)

        needed-all : needed t ≡ all
        needed-all = ap (λ (o : Option ItemListed). length (counted o listed)) is_found ∙ sym all-counted

        first-low : first_of s area p < K
        first-low = omega (arith, at_lt first-at, length-map (nodes t) (λ (x : Item Transition Subset). x.at), h.nodes_are)

        witness-ready : {len : ℕ} → K + s.capacity ≤ len → WitnessReady origins s area p len
        witness-ready room =
            record {
              kept = record { fits = h.fits; below = omega (arith, low, y.room); linked = agreed_linked s area all agreed p low };
              noted = origins-noted h.notes_are (first_of s area p) first-low h.notes_room;
              room = omega (arith, first-low, low, y.room);
            }

        stem-same : stem_letters origins (first_of s area p) ≡ letters (stem_to item.at.first (nodes t))
        stem-same = stem_is h.notes_are (first_of s area p) first-low ∙ way-stem t first-at

        cycle-same : cycle_letters s area p ≡ letters item.way
        cycle-same = cycle_is s area all agreed p low

        -- the witness of this profile, written, is the answer
        witness-answers : {buffer after : List ℕ} {w : Lengths} → WitnessWritten origins s area p buffer after w
            → Answers (concluded t) buffer after (Ok (Satisfiable w.stem w.cycle K all))
        witness-answers {buffer} {after} {w} written =
            subst⁻¹ (λ (o : Option ItemListed). Answers (conclude (nodes t) (counted o listed) o) buffer after
            (Ok (Satisfiable w.stem w.cycle K all))) is_found
            (record {
              answered = λ i. Ok (Satisfiable (stem-long i) (cycle-long i) (h.nodes_are i) (all-counted i));
              buffered = written.buffer_is ∙ over_runs stem item.way buffer stem-same cycle-same;
            })
          where
            stem : List Transition
            stem = stem_to item.at.first (nodes t)

            stem-long : w.stem ≡ length stem
            stem-long = written.stem_is ∙ ap length stem-same ∙ length-map stem letter

            cycle-long : w.cycle ≡ length item.way
            cycle-long = written.cycle_is ∙ ap length cycle-same ∙ length-map item.way letter

    -- All profiles are kept, and none is accepting.
    module _ {l all : ℕ} (y : Layers (accepting t) s ones area l all all) where
      kept-length : length (profiles all t (reachable t)) ≡ all
      kept-length = ap length (sym (y.records ∙ turns_are all)) ∙ stored-length s area all

      all-kept : all ≡ length listed
      all-kept =
          omega (
            arith,
            kept-length,
            ((decoded_agrees h.decoded).agree all).few,
            (decoded_agrees h.decoded).whole all (omega (arith, kept-length)),
          )

      is_none : found_in t ≡ none
      is_none =
          none-accepting (agreed y) (none_kept y (omega arith) y.none_passes) (omega (arith, all-kept))
          (omega (arith, stored-length s area all))

      needed-listed : needed t ≡ all
      needed-listed = ap (λ (o : Option ItemListed). length (counted o listed)) is_none ∙ sym all-kept

      none_answers : (buffer : List ℕ) → Answers (concluded t) buffer buffer (Ok (Unsatisfiable K all))
      none_answers buffer =
          subst⁻¹ (λ (o : Option ItemListed). Answers (conclude (nodes t) (counted o listed) o) buffer buffer (Ok (Unsatisfiable K all)))
          is_none
          (record { answered = λ i. Ok (Unsatisfiable (h.nodes_are i) (all-kept i)); buffered = refl })

    -- There is no room for the first l + 1 layers, and none of the first l has an accepting profile.
    module _ (l : ℕ) (full : s.capacity < end (suc l))
        (none_passes : (i : ℕ) (x : FoundProfile) → At (found_by s ones l) i x → i < end l → accepting t x ≡ false) where
      found-long : length (found_by s ones l) ≡ end (suc l)
      unfolding profiles_from
      found-long = refl

      end_low : end l ≤ length (found_by s ones l)
      end_low = omega (arith, found-long, end_is l, end_is (suc l), within_more l (suc l) (omega arith) listed)

      more-needed : (o : Option ItemListed) → found_in t ≡ o → s.capacity < length (counted o listed)
      more-needed none e = omega (arith, full, end_is (suc l), within-few (suc l) listed)
      more-needed (some x) e =
          let (i, c, m) = first-behind (agree (end l)) (λ j z d r. never (none_passes j z d r)) end_low e in
          omega (arith, full, end_is (suc l), within_more (suc l) (length x.way) ((parted l).high i x c m) listed)

    -- Theorem: what the search came to, told, is the answer, if the store is as large as asked.
    module _ (M : ℕ) (capacity_is : s.capacity ≡ M) where
      pub told-ready : {N len : ℕ} → node_count t ≤ N → N + M ≤ len → Ready origins s area len found
      told-ready {N} {len} few room = by h.comes_to
        where
          by : {o : prelude.Option Sought} → ComesTo (accepting t) s ones area o → Ready origins s area len o
          by (ComesTo.accepting l y low passes before late) =
              witness-ready y low passes before late (omega (arith, h.nodes_are))
          by (ComesTo.nowhere l y) = tt
          by (ComesTo.no_room l full none_passes) = tt

      pub told-answers : {buffer after : List ℕ} {r : Answer} → Told origins s area K found buffer after r
          → Answers (onward M t) buffer after r
      told-answers {buffer} {after} {r} = by h.comes_to
        where
          by : {o : prelude.Option Sought} → ComesTo (accepting t) s ones area o → Told origins s area K o buffer after r
              → Answers (onward M t) buffer after r
          by (ComesTo.accepting l y low passes before late) (w, written, e) =
              answers-on M t (omega (arith, needed-all y low passes before late, y.room))
              (subst⁻¹ (Answers (concluded t) buffer after) e (witness-answers y low passes before late written))
          by (ComesTo.nowhere {all} l y) (e, q) =
              answers-on M t (omega (arith, needed-listed y, y.room))
              (subst⁻¹ (λ (x : List ℕ × Answer). Answers (concluded t) buffer x.0 x.1) (λ i. (e i, q i))
              (none_answers y buffer))
          by (ComesTo.no_room l full none_passes) (e, q) =
              subst⁻¹ (λ (x : List ℕ × Answer). Answers (onward M t) buffer x.0 x.1) (λ i. (e i, q i))
              (answers_15 M t (omega (arith, more-needed l full none_passes (found_in t) refl)) buffer)
