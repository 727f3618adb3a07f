-- The multixacts that events give, told from each other by all that they have.
use Rattle.std.specs.Prelude.{◌≡◌, ℕ, Bool, false, List, [], ◌∷◌, Contains}
use Rattle.std.specs.BTreeSet.{BTreeSet, contains}
use Rattle.std.specs.Cmp.Lexicographic.{slice_cmp}
use Rattle.std.specs.Global.{Vec}
use Rattle.std.specs.List.{list_any}
use Rattle.std.specs.Ordering.{is_eq, nat_cmp}
use Rattle.std.specs.declared.cmp.Ordering.{Ordering}
use Rattle.tx_events.specs.Modes.{mode_number}
use Rattle.tx_events.specs.declared.event.By.{By}
use Rattle.tx_events.specs.declared.multi.Member.{Member}
use Rattle.tx_events.specs.declared.multi.MultiEvent.{MultiEvent}
use Rattle.tx_events.specs.declared.multi.MultiEvent.TheVariants as multis
use Rattle.tx_events.specs.declared.record.Rec.{Rec}
use Rattle.tx_events.specs.declared.record.Rec.TheVariants as records

abbrev pub members_key : List Member → List ℕ
members_key [] = []
members_key (m ∷ members) = m.id ∷ mode_number m.mode ∷ members_key members

-- the multixact as one list of numbers
abbrev pub key_of : ℕ → ℕ → List Member → List ℕ
key_of multi offset members = multi ∷ offset ∷ members_key members

abbrev pub key_cmp : Vec ℕ → Vec ℕ → Ordering
key_cmp x y = slice_cmp nat_cmp x.items y.items

-- the event gives the multixact of this key
abbrev pub is_gen_of : List ℕ → MultiEvent → Bool
is_gen_of key (multis.Gen by multi offset members) = is_eq (slice_cmp nat_cmp (key_of multi offset members) key)
is_gen_of key e = false

abbrev pub AreGens : List MultiEvent → BTreeSet (Vec ℕ) → Type 0
AreGens all gens = (q : Vec ℕ) → contains key_cmp gens q ≡ list_any (is_gen_of q.items) all

-- a multixact's record that is no event's
abbrev pub IsStrayRec : List MultiEvent → Rec → Type 0
IsStrayRec all (records.Multi multi offset members) = (by : By) → Contains all (multis.Gen by multi offset members) → ⊥
IsStrayRec all rec = ⊥
