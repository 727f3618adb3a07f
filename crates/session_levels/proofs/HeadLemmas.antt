-- The first of a session's open ids is the transaction's.
use Rattle.std.proofs.Common.{◌≡◌, ℕ, ◌≤◌, List, [], ◌∷◌, Some, length, drop, refl, sym, ap, subst, ◌∙◌, arith, true, Contains, inl}
use Rattle.std.specs.List.{slice_index_or}
use Rattle.tx_events.specs.declared.event.By.{By}
use Rattle.tx_events.specs.declared.event.Event.{Event}
use Rattle.tx_events.specs.declared.record.Counters.{Counters}
use Rattle.tx_events.specs.declared.xact_end.XactEnd.{XactEnd}
use Rattle.tx_events.specs.declared.xact_end.XactEnd.TheVariants as ends
use Rattle.tx_events.specs.Families.{is_top}
use Rattle.tx_events.specs.History.{MayCome}
use Rattle.tx_events.specs.Running.{open_ids}
use Rattle.tx_events.specs.XactEnds.{end_event}
use Rattle.tx_events.proofs.Membership.{has_contains}
use Rattle.tx_model.specs.Stance.{top_level}
use Rattle.session_levels.specs.Stands.{Nest, levels_of}
use Rattle.session_levels.proofs.LevelLemmas.{top_of_named}

-- the first id and the others
pub head_tail : (ids : List ℕ) (d : ℕ) → 1 ≤ length ids → ids ≡ slice_index_or ids 0 d ∷ drop 1 ids
head_tail [] d l = absurd (omega arith)
head_tail (x ∷ ids) d l = refl

pub heads : (a b : ℕ) (xs ys : List ℕ) → a ∷ xs ≡ b ∷ ys → a ≡ b
heads a b xs ys e = cc

pub tails : (a b : ℕ) (xs ys : List ℕ) → a ∷ xs ≡ b ∷ ys → xs ≡ ys
tails a b xs ys e = cc

none_first : (top : ℕ) (subs : List ℕ) → [] ≡ top ∷ subs → ⊥
none_first top subs e = cc

pub first_level : (h : List Event) (opened named : List ℕ) (unnamed top : ℕ) (subs : List ℕ) → Nest h opened named → opened ≡ top ∷ subs → top_level (levels_of named unnamed) ≡ Some top
first_level h opened [] unnamed top subs nest is = absurd (none_first top subs (sym nest ∙ is))
first_level h opened (t ∷ savepoints) unnamed top subs nest is = top_of_named t savepoints unnamed ∙ ap (λ z. Some z) (heads t top nest.0 subs (sym nest.1 ∙ is))

pub first_top : (h : List Event) (opened named : List ℕ) (top : ℕ) (subs : List ℕ) → Nest h opened named → opened ≡ top ∷ subs → is_top h top ≡ true
first_top h opened [] top subs nest is = absurd (none_first top subs (sym nest ∙ is))
first_top h opened (t ∷ savepoints) top subs nest is = subst (λ z. is_top h z ≡ true) (heads t top nest.0 subs (sym nest.1 ∙ is)) nest.2

pub may_end : (base : Counters) (h : List Event) (by : By) (t : ℕ) (rest : List ℕ) (how : XactEnd) → open_ids by.session h ≡ t ∷ rest → is_top h t ≡ true → MayCome base h (end_event how by t)
may_end base h by t rest ends.Commit o i = (subst (λ l. Contains l t) (sym o) (has_contains (t ∷ rest) t (inl refl)), i)
may_end base h by t rest ends.Abort o i = (subst (λ l. Contains l t) (sym o) (has_contains (t ∷ rest) t (inl refl)), i)
