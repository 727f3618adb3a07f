-- One id more.
use Rattle.std.proofs.Common.{◌≡◌, ◌≢◌, ◌⊎◌, ⊎_elim, ℕ, ◌+◌, ◌/◌, ◌%◌, ◌<◌, ◌≤◌, Result, Ok, OnErr, List, [], ◌∷◌, zero, suc, length, get_or, slice_index, refl, ◌∙◌, ap, subst, arith}
use Rattle.disk_core.specs.declared.page_disk.PageDisk.{Ghosts as DiskGhosts}
use Rattle.store_pages.specs.declared.page_rule.PageRule.{Ghosts as RuleGhosts}
use Rattle.slru_bank.specs.Calls.{CallsBank, SamePages, calls_again, second_is_ok, unrefused}
use Rattle.slru_bank.specs.declared.bank.SlruBank.{SlruBank}
use Rattle.slru_bank.specs.declared.refusal.BankRefusal.{BankRefusal}
use Rattle.tx_events.specs.Ids.{low_half}
use Rattle.store_pages.specs.Layouts.{state_in, xact_page_of, xact_place_of}
use Rattle.slru_bank.specs.Changes.{SetsState, SetsStates, ShareAPage}

same_or_not : (a b : ℕ) → (a ≡ b) ⊎ (a ≢ b)
same_or_not a b = grind arith

now_or_before : (j n : ℕ) → j < n + 1 → (j ≡ n) ⊎ (j < n)
now_or_before j n h = grind arith

pub none_yet : (ids : List ℕ) (s : ℕ) (m : ℕ → List ℕ) → SetsStates ids 0 s m m
none_yet ids s m = record { each = λ j h. absurd (omega arith); same_page = λ k within apart. refl; others = λ q differs. refl }

pub one_more : (ids : List ℕ) (n s : ℕ) (m m1 m2 : ℕ → List ℕ) → SetsStates ids n s m m1 → SetsState (xact_page_of (slice_index ids 0)) (xact_place_of (slice_index ids n)) s m1 m2 → SetsStates ids (n + 1) s m m2
one_more ids n s m m1 m2 sets step =
    let page : ℕ = xact_page_of (slice_index ids 0) in
    let place : ℕ = xact_place_of (slice_index ids n) in
    record {
      each = λ j h. ⊎_elim
          (λ (e : j ≡ n). ap (λ (i : ℕ). state_in (m2 page) (xact_place_of (slice_index ids i))) e ∙ step.here)
          (λ (before : j < n). ⊎_elim
          (λ (e : xact_place_of (slice_index ids j) ≡ place). ap (λ (k : ℕ). state_in (m2 page) k) e ∙ step.here)
          (λ (differs : xact_place_of (slice_index ids j) ≢ place). step.same_page (xact_place_of (slice_index ids j)) (omega arith) differs ∙ sets.each j before)
          (same_or_not (xact_place_of (slice_index ids j)) place))
          (now_or_before j n h);
      same_page = λ k within apart. step.same_page k within (apart n (omega arith)) ∙ sets.same_page k within (λ j before. apart j (omega arith));
      others = λ q differs. step.others q differs ∙ sets.others q differs;
    }

any_default : (xs : List ℕ) (n d e : ℕ) → n < length xs → get_or xs n d ≡ get_or xs n e
any_default [] n d e within = absurd (omega arith)
any_default (x ∷ xs) zero d e within = refl
any_default (x ∷ xs) (suc n) d e within = any_default xs n d e (omega arith)

pub one_more_by : (ids : List ℕ) (n s d x : ℕ) (m m1 m2 : ℕ → List ℕ) → n < length ids → ShareAPage ids → x ≡ low_half (get_or ids n d)
    → SetsStates ids n s m m1 → SetsState (x / 32768) (x % 32768) s m1 m2 → SetsStates ids (n + 1) s m m2
one_more_by ids n s d x m m1 m2 within share is sets step =
    let here : x ≡ low_half (slice_index ids n) = is ∙ ap low_half (any_default ids n d 0 within) in
    let page : x / 32768 ≡ xact_page_of (slice_index ids 0) = ap (λ (y : ℕ). y / 32768) here ∙ share n within in
    let place : x % 32768 ≡ xact_place_of (slice_index ids n) = ap (λ (y : ℕ). y % 32768) here in
    one_more ids n s m m1 m2 sets (subst (λ (k : ℕ). SetsState (xact_page_of (slice_index ids 0)) k s m1 m2) place (subst (λ (p : ℕ). SetsState p (x % 32768) s m1 m2) page step))

pub page_shared : (ids : List ℕ) (n d x : ℕ) → n < length ids → ShareAPage ids → x ≡ low_half (get_or ids n d) → x / 32768 ≡ xact_page_of (slice_index ids 0)
page_shared ids n d x within share is =
    ap (λ (y : ℕ). y / 32768) (is ∙ ap low_half (any_default ids n d 0 within)) ∙ share n within

-- of calls on one page for one id after another, all before the last one answered Ok
module _ {P O : Type 0} {g : DiskGhosts P} {r : RuleGhosts O} (page : ℕ) where
  pub calls_more : (i : ℕ) (b0 b1 b2 : SlruBank P O g r) (result : Result (Unit {0}) BankRefusal) → (i ≡ 0 → b1 ≡ b0) → (1 ≤ i → CallsBank page b0 b1 (Ok (tt {0}))) → CallsBank page b1 b2 result → CallsBank page b0 b2 result
  calls_more zero b0 b1 b2 result untouched calls call = subst (λ (b : SlruBank P O g r). CallsBank page b b2 result) (untouched refl) call
  calls_more (suc i) b0 b1 b2 result untouched calls call = calls_again page b0 b1 b2 (tt {0}) (Ok (tt {0})) result refl (calls (omega arith)) call

  -- so only the first one can be refused, and it sets nothing
  pub refused_first : (i : ℕ) (b0 b1 b2 : SlruBank P O g r) (result : Result (Unit {0}) BankRefusal) → (i ≡ 0 → b1 ≡ b0) → (1 ≤ i → CallsBank page b0 b1 (Ok (tt {0}))) → CallsBank page b1 b2 result
      → OnErr result (SamePages b1 b2) → OnErr result (SamePages b0 b2)
  refused_first zero b0 b1 b2 result untouched calls call same = subst (λ (b : SlruBank P O g r). OnErr result (SamePages b b2)) (untouched refl) same
  refused_first (suc i) b0 b1 b2 result untouched calls call same = unrefused result (SamePages b0 b2) (second_is_ok page b0 b1 b2 (tt {0}) (Ok (tt {0})) result refl (calls (omega arith)) call)
