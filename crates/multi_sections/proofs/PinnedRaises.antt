-- The oldest multixact is raised to a pinned one.
use Rattle.std.proofs.Common.{◌≡◌, ◌↔◌, ℕ, suc, ◌+◌, ◌%◌, ◌^◌, ◌<◌, ◌≤◌, true, cond, nat_lt, unwrap_or, Contains, IsTrue, List, length, length-append, ⊎_elim, refl, ap, sym, subst, ◌∙◌, arith}
use Rattle.std.proofs.lemmas.Bool.{cases_lt}
use Rattle.std.proofs.lemmas.Bool.Decides.{nat_tests}
use Rattle.std.proofs.lemmas.List.Elements.{filter_map-append}
use Rattle.notes.specs.Lists.{Grows}
use Rattle.tx_events.specs.declared.event.By.{By}
use Rattle.tx_events.specs.declared.multi.Member.{Member}
use Rattle.tx_events.specs.declared.multi.MultiEvent.{MultiEvent}
use Rattle.tx_events.specs.declared.record.Counters.{Counters}
use Rattle.tx_events.specs.declared.record.Rec.{Rec}
use Rattle.tx_events.specs.declared.record.Rec.TheVariants as records
use Rattle.tx_events.specs.declared.refusal.Refusal.{Refusal}
use Rattle.tx_events.specs.declared.refusal.Refusal.TheVariants as refusals
use Rattle.tx_events.specs.Multis.{InBase, IsRaised, made, made_by, nth_multi}
use Rattle.multi_store.specs.declared.answers.Held.{Held}
use Rattle.multi_store.specs.Generator.{Generator, IsNotRaised, limit_of, next_of, oldest_of}
use Rattle.multi_store.proofs.Numbers.{next_above, nth_order}
use Rattle.multi_store.proofs.RaiseSound.{limit_to}
use Rattle.tx_core.specs.declared.entry.Entry.{Entry}
use Rattle.tx_core.specs.declared.entry.Start.{Start}
use Rattle.tx_core.specs.MultiEntries.{AreFewMultis, multi_history}
use Rattle.tx_core.proofs.Rising.{multis_grow}
use Rattle.multi_sections.specs.Raised.{IsNotRaisedNow, IsOffsetTold, IsRaisedAs, first_from, offset_read}
use Rattle.multi_sections.specs.declared.settling.Raising.TheVariants as raisings
use Rattle.multi_sections.proofs.Answered.{generator_of}

-- ---- how many were given

later : (first n m : ℕ) → n < m → nth_multi first n ≡ nth_multi first m → ⊥
later first n m l e =
    let up = next_above (nth_multi first n) in
    let next = nth_order first (suc n) m (omega arith) in
    clash (nth_multi first n) (nth_multi first (suc n)) (nth_multi first m) up next e
  where
    clash : (a b c : ℕ) → a < b → b ≤ c → a ≡ c → ⊥
    clash a b c x y z = omega arith

pub count_is : (first n m : ℕ) → nth_multi first n ≡ nth_multi first m → n ≡ m
count_is first n m e =
    ⊎_elim
    (λ (l : n < m). absurd (later first n m l e))
    (λ (k : m ≤ n).
    ⊎_elim
    (λ (l : m < n). absurd (later first m n l (sym e)))
    (λ (j : n ≤ m). let same : n ≡ m = omega arith in same)
    (cases_lt m n))
    (cases_lt n m)

pub below_most : (n : ℕ) → IsTrue (nat_lt n 2900000) ↔ (n < 2900000)
below_most n = (λ t. grind (arith, nat_tests), λ l. grind (arith, nat_tests))

pub few_before : (lists more : List (List Entry)) → Grows lists more → AreFewMultis more → AreFewMultis lists
few_before lists more g few =
    let b = multis_grow lists more g in
    let split : length (made (multi_history more)) ≡ length (made (multi_history lists)) + length (made b.0) =
    ap (λ (h : List MultiEvent). length (made h)) (sym b.1) ∙ (ap (λ (t : List ℕ). length t) (filter_map-append made_by (multi_history lists) b.0) ∙ length-append (made (multi_history lists)) (made b.0)) in
    shorter (length (made (multi_history lists))) (length (made b.0)) (length (made (multi_history more))) split few
  where
    shorter : (a b c : ℕ) → c ≡ a + b → c < 2900000 → a < 2900000
    shorter a b c e l = omega arith

-- ---- the only offset with the half that was read

only_from : (from low x : ℕ) → low ≡ x % 2 ^ 32 → from ≤ x → x < from + 2 ^ 32 → first_from from low ≡ x
only_from from low x e l m = omega arith

read_old : (base : Counters) (h : Held) (low : ℕ) → h.multi < base.multi → offset_read base h low ≡ first_from base.oldest_offset low
read_old base h low l =
    let below : nat_lt h.multi base.multi ≡ true = grind (arith, nat_tests) in
    ap (λ b. cond b (first_from base.oldest_offset low) (unwrap_or h.start 0)) below

pub recorded_there : (start : Start) (lists : List (List Entry)) (h : Held) (low offset : ℕ) → IsOffsetTold start lists h.multi low → offset ≡ offset_read start.base h low → IsTrue start.told → (rec : Rec) → Contains start.recorded rec → AreFewMultis lists → h.multi < start.base.multi
    → (members : List Member) × Contains start.recorded (records.Multi h.multi offset members)
recorded_there start lists h low offset read is told rec among few below =
    let r = read told rec among few below in
    let same : offset ≡ r.0 = is ∙ (read_old start.base h low below ∙ only_from start.base.oldest_offset low r.0 r.1 r.2 r.3) in
    subst (λ x. (members : List Member) × Contains start.recorded (records.Multi h.multi x members)) (sym same) r.4

-- ---- in the history

pub raised_there : (base : Counters) (h : List MultiEvent) (new : Generator) (by : By) (held : Held) (low offset : ℕ) → IsRaisedAs (generator_of base h) new by held low (raisings.Raised offset) → IsRaised base (InBase base) h held.multi offset
raised_there base h new by held low offset i = record { not_back = i.2; not_pinned = i.3; begins = i.1 }

pub not_raised_now : (g : Generator) (h : Held) (low : ℕ) (r : Refusal) → IsNotRaised g h.multi r → IsNotRaisedNow g.base g.events h low r
not_raised_now g h low r n =
    ⊎_elim
    (λ (z : (h.multi < oldest_of g) × (r ≡ refusals.Backward (oldest_of g))). subst (IsNotRaisedNow g.base g.events h low) (sym z.1) (refl, z.0))
    (λ rest. ⊎_elim
    (λ (z : (oldest_of g ≤ h.multi) × (limit_of g < h.multi) × (r ≡ refusals.Held (limit_of g))). subst (IsNotRaisedNow g.base g.events h low) (sym z.2) (refl, z.1, z.0))
    (λ (z : (oldest_of g ≤ h.multi) × (h.multi ≤ limit_of g) × (r ≡ refusals.Memory)). subst (IsNotRaisedNow g.base g.events h low) (sym z.2) (z.0, to h.multi (limit_of g) (next_of g) z.1 (limit_to g.base.multi g.events)))
    rest)
    n
  where
    to : (m l n : ℕ) → m ≤ l → l ≤ n → m ≤ n
    to m l n a b = omega arith
