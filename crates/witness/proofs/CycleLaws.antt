-- The letters along the profiles that are kept are those of a profile's way, where the profiles agree with the definition's one for one.
-- Assumes nothing.
use Rattle.std.proofs.Common.{◌≡◌, List, ℕ, suc, ◌<◌, length, arith}
use Rattle.base.specs.Spread.{Linked}
use Rattle.base.proofs.At.{At}
use Rattle.formula.specs.Table.{Table}
use Rattle.profile_tables.proofs.RunLaws.{ItemListed}
use Rattle.profile_tables.proofs.AgreeLaws.{letters_of, ProfilesAgree, Agreed}
use Rattle.profile_search.specs.Stored.{stored, record_of}
use Rattle.profile_search.specs.declared.placed.Store.{Store}
use Rattle.profile_search.proofs.GrowLaws.{stored-length, record_at}
use Rattle.witness.specs.Letters.{cycle_letters}

module _ (s : Store) (area : List ℕ) (count : ℕ) {t : Table} {ys : List ItemListed} (a : ProfilesAgree t (stored s area count) ys) where
  stands : (i : ℕ) → i < length (stored s area count) → At (stored s area count) i (record_of s area i)
  stands i h = record_at s area count i (omega (arith, stored-length s area count))

  -- profile i and its counterpart
  abbrev pub counterpart : (i : ℕ) → i < count → Agreed t ys i (record_of s area i)
  counterpart i h = a.each i (record_of s area i) (record_at s area count i h)

  pub agreed_linked : (p : ℕ) → p < count → Linked (record_of s area) (suc p)
  agreed_linked p h i l = a.linked (record_of s area) stands i (omega (arith, stored-length s area count))

  -- Theorem: the letters along the profiles are those of the way.
  pub cycle_is : (p : ℕ) (h : p < count) → cycle_letters s area p ≡ letters_of (counterpart p h).item
  cycle_is p h =
      a.letters (record_of s area) stands p (counterpart p h).item (counterpart p h).stands (omega (arith, stored-length s area count))
