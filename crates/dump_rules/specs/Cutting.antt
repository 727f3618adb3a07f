-- By which cutoffs pages may be cut.
use Rattle.std.specs.Prelude.{◌≡◌, ℕ, ◌+◌, ◌<◌, ◌≤◌, ◌==◌, Bool, false, List, ◌∷◌, Some, length, take}
use Rattle.std.specs.BTreeMap.{BTreeMap, get}
use Rattle.std.specs.Ordering.{nat_cmp}
use Rattle.tx_events.specs.declared.event.Event.{Event}
use Rattle.tx_events.specs.declared.record.Counters.{Counters}
use Rattle.tx_events.specs.declared.record.Rec.{Rec}
use Rattle.tx_events.specs.declared.record.Rec.TheVariants as records
use Rattle.tx_events.specs.Horizon.{oldest_xmin}
use Rattle.store_pages.specs.Layouts.{member_cutoff, offset_cutoff, subtrans_cutoff, xact_cutoff}
use Rattle.record_rules.specs.Firsts.{HasKeys}
use Rattle.dump_rules.specs.declared.cuts.Cuts.{Cuts}

-- a truncation to the oldest numbers with which the life begins
abbrev pub first_cut : Counters → Rec
first_cut base = records.Truncate base.oldest base.oldest_multi base.oldest_offset

-- the record cuts a store by this cutoff, pg_xact in a life that began with this oldest id
abbrev pub cuts_xact : ℕ → ℕ → Rec → Bool
cuts_xact first k (records.Truncate oldest multi offset) = xact_cutoff first oldest == k
cuts_xact first k rec = false

abbrev pub cuts_offset : ℕ → Rec → Bool
cuts_offset k (records.Truncate oldest multi offset) = offset_cutoff multi == k
cuts_offset k rec = false

abbrev pub cuts_member : ℕ → Rec → Bool
cuts_member k (records.Truncate oldest multi offset) = member_cutoff offset == k
cuts_member k rec = false

-- the cutoff of pg_subtrans at this place of the history
abbrev pub cutoff_at : Counters → List Event → ℕ → ℕ
cutoff_at base h p = subtrans_cutoff base.oldest (oldest_xmin base.next (take p h))

-- each cutoff of a place below this one, with the first of its places
pub record HasFirsts (base : Counters) (h : List Event) (upto : ℕ) (firsts : BTreeMap ℕ ℕ) : Type 0 where
  pub sound : (c p : ℕ) → get nat_cmp firsts c ≡ Some p → (p < upto) × (c ≡ cutoff_at base h p)
  pub all : (p : ℕ) → p < upto → (q : ℕ) × (q ≤ p) × (get nat_cmp firsts (cutoff_at base h p) ≡ Some q)

pub record AreCuts (base : Counters) (recs : List Rec) (h : List Event) (cuts : Cuts) : Type 0 where
  pub xacts : HasKeys nat_cmp (cuts_xact base.oldest) (first_cut base ∷ recs) cuts.xacts
  pub parents : HasFirsts base h (length h + 1) cuts.parents
  pub offsets : HasKeys nat_cmp cuts_offset (first_cut base ∷ recs) cuts.offsets
  pub members : HasKeys nat_cmp cuts_member (first_cut base ∷ recs) cuts.members
