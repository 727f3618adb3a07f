-- One member more of a run on one page.
use Rattle.std.proofs.Common.{◌≡◌, ◌≢◌, ◌⊎◌, ⊎_elim, inl, inr, ℕ, zero, suc, ◌+◌, ◌/◌, ◌%◌, ◌<◌, ◌≤◌, List, [], ◌∷◌, ◌++◌, Some, length, refl, sym, ◌∙◌, ap, subst, arith, slice_index_or, Result, Err, Ok}
use Rattle.std.specs.List.{slice_get, slice_index}
use Rattle.tx_events.specs.Ids.{low_half}
use Rattle.tx_events.specs.Modes.{mode_number}
use Rattle.tx_events.specs.declared.multi.Member.{Member}
use Rattle.store_pages.specs.Layouts.{number_in}
use Rattle.tx_events.specs.Pages.{id_at, member_page, member_place, mode_at}
use Rattle.disk_core.specs.declared.page_disk.PageDisk.{Ghosts as DiskGhosts}
use Rattle.store_pages.specs.declared.page_rule.PageRule.{Ghosts as RuleGhosts}
use Rattle.slru_bank.specs.Bank.{IsPage}
use Rattle.slru_bank.specs.Calls.{CallsBank, calls_again, cutoff_of}
use Rattle.slru_bank.specs.declared.bank.SlruBank.{SlruBank}
use Rattle.slru_bank.specs.declared.refusal.BankRefusal.{BankRefusal}
use Rattle.slru_bank.specs.declared.refusal.BankRefusal.TheVariants.{Cut, DiskFault}
use Rattle.bank_stores.specs.Changes.{SetsMember}
use Rattle.bank_stores.specs.Runs.{SetsMembers, slots_on}
use Rattle.bank_stores.specs.Slots.{slot_of}
use Rattle.bank_stores.specs.declared.slot.Slot.{Slot}

-- the element at a place within
pub got : (members : List Member) (n : ℕ) (d : Member) → n < length members → slice_get members n ≡ Some (slice_index_or members n d)
got [] n d within = absurd (omega arith)
got (m ∷ ms) zero d within = refl
got (m ∷ ms) (suc n) d within = got ms n d (omega arith)

pub none_yet : (page place : ℕ) (members : List Member) (m : ℕ → List ℕ) → SetsMembers page place members 0 m m
none_yet page place members m = record {
  mode = λ k member lt e. absurd (omega arith);
  id = λ k member lt e. absurd (omega arith);
  same_page = λ k within apart. record { mode = refl; id = refl };
  tail = λ i past. refl;
  pages = λ some. absurd (omega arith);
  others = λ q differs. refl;
}

now_or_before : (j n : ℕ) → j < n + 1 → (j ≡ n) ⊎ (j < n)
now_or_before j n h = grind arith

one_member : (a b : Member) → Some a ≡ Some b → a ≡ b
one_member a b e = cc

pub one_more : (page place : ℕ) (members : List Member) (n : ℕ) (member : Member) (m m1 m2 : ℕ → List ℕ) → n < length members → place + length members ≤ 1636 → slice_get members n ≡ Some member
    → (n ≡ 0 → m1 page ≡ m page) → SetsMembers page place members n m m1 → SetsMember page (place + n) (mode_number member.mode) (low_half member.id) m1 m2 → SetsMembers page place members (n + 1) m m2
one_more page place members n member m m1 m2 within fits here first sets step = record {
  mode = λ k other lt e. ⊎_elim
      (λ (q : k ≡ n).
      let same : member ≡ other = one_member member other (sym here ∙ (ap (λ z. slice_get members z) (sym q) ∙ e)) in
      ap (λ z. slice_index (m2 page) (mode_at (place + z))) q ∙ (step.mode ∙ ap (λ (z : Member). mode_number z.mode) same))
      (λ (before : k < n). (step.same_page (place + k) (omega arith) (omega arith)).mode ∙ sets.mode k other before e)
      (now_or_before k n lt);
  id = λ k other lt e. ⊎_elim
      (λ (q : k ≡ n).
      let same : member ≡ other = one_member member other (sym here ∙ (ap (λ z. slice_get members z) (sym q) ∙ e)) in
      ap (λ z. number_in (m2 page) (id_at (place + z))) q ∙ (step.id ∙ ap (λ (z : Member). low_half z.id) same))
      (λ (before : k < n). (step.same_page (place + k) (omega arith) (omega arith)).id ∙ sets.id k other before e)
      (now_or_before k n lt);
  same_page = λ k within apart.
      let last = step.same_page k within (apart n (omega arith)) in
      let earlier = sets.same_page k within (λ j before. apart j (omega arith)) in
      record { mode = last.mode ∙ earlier.mode; id = last.id ∙ earlier.id };
  tail = λ i past. step.tail i past ∙ sets.tail i past;
  pages = λ some. record { was = was n refl (λ one. (sets.pages one).was); is = step.pages.is };
  others = λ q differs. step.others q differs ∙ sets.others q differs;
}
  where
    -- before the first one nothing is set: the page is that of the step
    was : (k : ℕ) → k ≡ n → (1 ≤ k → IsPage (m page)) → IsPage (m page)
    was zero q later = subst IsPage (first (sym q)) step.pages.was
    was (suc k) q later = later (omega arith)

-- the k-th place of a run that fits on the page
pub run_page : (offset k count : ℕ) → k < count → member_place offset + count ≤ 1636 → (member_page (offset + k) ≡ member_page offset) × (member_place (offset + k) ≡ member_place offset + k)
run_page offset k count lt fits = (omega arith, omega arith)

-- one slot more is read
pub slots_more : (bytes : List ℕ) (place n : ℕ) → slots_on bytes place (suc n) ≡ slots_on bytes place n ++ slot_of (slice_index bytes (mode_at (place + n))) (number_in bytes (id_at (place + n))) ∷ []
slots_more bytes place zero = let e : place + 0 ≡ place = omega arith in ap (λ z. slot_of (slice_index bytes (mode_at z)) (number_in bytes (id_at z)) ∷ []) (sym e)
slots_more bytes place (suc n) =
    let e : place + 1 + n ≡ place + suc n = omega arith in
    ap (λ l. slot_of (slice_index bytes (mode_at place)) (number_in bytes (id_at place)) ∷ l)
    (slots_more bytes (place + 1) n ∙ ap (λ z. slots_on bytes (place + 1) n ++ slot_of (slice_index bytes (mode_at z)) (number_in bytes (id_at z)) ∷ []) e)

-- ---- calls on one page for one slot after another, all before the last one answered Ok

module _ {P O X Y : Type 0} {g : DiskGhosts P} {r : RuleGhosts O} (page : ℕ) where
  -- what an Ok says doesn't go by what it carries
  pub calls_ok : (old new : SlruBank P O g r) (x : X) (y : Y) → CallsBank page old new (Ok x) → CallsBank page old new (Ok y)
  calls_ok old new x y c = record {
    last = c.last;
    calls = record {
      cutoff = c.calls.cutoff;
      cut = λ k. absurd (let bad = c.calls.cut k in cc);
      only_cut = λ cutoff e. absurd cc;
      cut_asks_nothing = c.calls.cut_asks_nothing;
      fault = λ e. absurd cc;
      count = c.calls.count;
      crash = c.calls.crash;
    };
    at_hand = c.at_hand;
    no_fault = λ held e. cc;
    not_asked = c.not_asked;
  }

-- a call's refusal, whatever it would have carried
abbrev pub refused : (X : Type 0) → BankRefusal → Result X BankRefusal
refused X refusal = Err refusal

module _ {P O X Y : Type 0} {g : DiskGhosts P} {r : RuleGhosts O} (page : ℕ) where
  -- a refusal doesn't go by it either
  pub calls_err : (old new : SlruBank P O g r) (refusal : BankRefusal) → CallsBank page old new (refused Y refusal) → CallsBank page old new (refused X refusal)
  calls_err old new refusal c = record {
    last = c.last;
    calls = record {
      cutoff = c.calls.cutoff;
      cut = λ k. ap (λ z. Err z) (same refusal (Cut (cutoff_of old)) (c.calls.cut k));
      only_cut = λ cutoff e. c.calls.only_cut cutoff (ap (λ z. Err z) (kind refusal (Cut cutoff) e));
      cut_asks_nothing = c.calls.cut_asks_nothing;
      fault = λ e. c.calls.fault (ap (λ z. Err z) (kind refusal DiskFault e));
      count = c.calls.count;
      crash = c.calls.crash;
    };
    at_hand = tt;
    no_fault = λ held e. c.no_fault held (ap (λ z. Err z) (kind refusal DiskFault e));
    not_asked = c.not_asked;
  }
    where
      same : (a b : BankRefusal) → refused Y a ≡ refused Y b → a ≡ b
      same a b q = cc

      kind : (a b : BankRefusal) → refused X a ≡ refused X b → a ≡ b
      kind a b q = cc

module _ {P O Y : Type 0} {g : DiskGhosts P} {r : RuleGhosts O} (page : ℕ) where
  pub reads_more : (i : ℕ) (b0 b1 b2 : SlruBank P O g r) (result : Result Y BankRefusal) → (i ≡ 0 → b1 ≡ b0) → (1 ≤ i → CallsBank page b0 b1 (Ok (tt {0}))) → CallsBank page b1 b2 result → CallsBank page b0 b2 result
  reads_more zero b0 b1 b2 result untouched calls call = subst (λ (b : SlruBank P O g r). CallsBank page b b2 result) (untouched refl) call
  reads_more (suc i) b0 b1 b2 result untouched calls call = calls_again page b0 b1 b2 (tt {0}) (Ok (tt {0})) result refl (calls (omega arith)) call
