-- When an id is open, by what closes it and by its parent.
use Rattle.std.proofs.Common.{◌≡◌, ℕ, List, refl, ap, sym, ◌∙◌, ⊎_elim, Bool, true, false, not, ◌&&◌, ◌||◌, Some, None}
use Rattle.std.specs.List.{list_any}
use Rattle.tx_events.specs.declared.event.Event.{Event}
use Rattle.tx_events.specs.declared.record.Counters.{Counters}
use Rattle.tx_events.specs.Events.{given, is_end_of, is_undo_of}
use Rattle.tx_events.specs.History.{IsLegal}
use Rattle.tx_events.specs.Running.{is_ended, is_open, is_undone}
use Rattle.tx_events.proofs.Closing.{open_is}
use Rattle.tx_events.proofs.Lineages.{enclosing_line, enclosing_of_sub, top_line, top_of_sub}
use Rattle.tx_events.proofs.Membership.{Has}
use Rattle.history_check.specs.Opened.{parent_of}
use Rattle.history_check.proofs.Parents.{HasNone, HasParent, parents}

ended_alone : (h : List Event) (x : ℕ) → HasNone h x → is_ended h x ≡ list_any (is_end_of x) h
ended_alone h x a = ap (λ (l : List ℕ). list_any (is_end_of (top_line l x)) h) a.line

undone_alone : (h : List Event) (x : ℕ) → HasNone h x → is_undone h x ≡ false
undone_alone h x a = ap (λ (l : List ℕ). list_any (λ y. list_any (is_undo_of y) h) (enclosing_line l)) a.line

ended_above : (h : List Event) (x : ℕ) (a : HasParent h x) → is_ended h x ≡ is_ended h a.parent
ended_above h x a = ap (λ t. list_any (is_end_of t) h) (ap (λ (l : List ℕ). top_line l x) a.line ∙ top_of_sub h a.parent x)

undone_above : (h : List Event) (x : ℕ) (a : HasParent h x) → is_undone h x ≡ (list_any (is_undo_of x) h || is_undone h a.parent)
undone_above h x a = ap (list_any (λ y. list_any (is_undo_of y) h)) (ap enclosing_line a.line ∙ enclosing_of_sub h a.parent x)

-- a top is open until it ends, a savepoint's id until its undo and as long as its parent is
pub top_open : (h : List Event) (x : ℕ) → HasNone h x → is_open h x ≡ not (list_any (is_end_of x) h)
top_open h x a =
    ap (λ b. not b && not (is_undone h x)) (ended_alone h x a)
    ∙ ap (λ b. not (list_any (is_end_of x) h) && not b) (undone_alone h x a)
    ∙ and_true (not (list_any (is_end_of x) h))
  where
    and_true : (b : Bool) → (b && true) ≡ b
    and_true true = refl
    and_true false = refl

pub sub_open : (h : List Event) (x : ℕ) (a : HasParent h x) → is_open h x ≡ (not (list_any (is_undo_of x) h) && is_open h a.parent)
sub_open h x a =
    ap (λ b. not b && not (is_undone h x)) (ended_above h x a)
    ∙ ap (λ b. not (is_ended h a.parent) && not b) (undone_above h x a)
    ∙ apart (is_ended h a.parent) (list_any (is_undo_of x) h) (is_undone h a.parent)
  where
    apart : (a b c : Bool) → (not a && not (b || c)) ≡ (not b && (not a && not c))
    apart true true c = refl
    apart true false c = refl
    apart false true c = refl
    apart false false c = refl

-- ---- which of both an id is

pub has_none : (base : Counters) (h : List Event) (x : ℕ) → IsLegal base h → Has (given h) x → parent_of h x ≡ None → HasNone h x
has_none base h x legal k e =
    ⊎_elim
    (λ (a : HasParent h x). let s : parent_of h x ≡ Some a.parent = a.is in absurd cc)
    (λ (a : HasNone h x). a)
    (parents base h legal x k)

pub record IsBelow (h : List Event) (x parent : ℕ) : Type 0 where
  pub above : HasParent h x
  pub is : above.parent ≡ parent

pub has_parent : (base : Counters) (h : List Event) (x parent : ℕ) → IsLegal base h → Has (given h) x → parent_of h x ≡ Some parent → IsBelow h x parent
has_parent base h x parent legal k e =
    ⊎_elim
    (λ (a : HasParent h x). let s : parent_of h x ≡ Some a.parent = a.is in let q : a.parent ≡ parent = cc in record { above = a; is = q })
    (λ (a : HasNone h x). let s : parent_of h x ≡ None = a.is in absurd cc)
    (parents base h legal x k)

or_first : (a b : Bool) → (a || b) ≡ false → a ≡ false
or_first true b e = absurd cc
or_first false b e = refl

-- an open id hasn't been closed by itself
pub top_not_ended : (base : Counters) (h : List Event) (x : ℕ) → IsLegal base h → Has (given h) x → parent_of h x ≡ None → is_open h x ≡ true → list_any (is_end_of x) h ≡ false
top_not_ended base h x legal k e o = sym (ended_alone h x (has_none base h x legal k e)) ∙ (open_is h x o).0

pub sub_not_undone : (base : Counters) (h : List Event) (x parent : ℕ) → IsLegal base h → Has (given h) x → parent_of h x ≡ Some parent → is_open h x ≡ true → list_any (is_undo_of x) h ≡ false
sub_not_undone base h x parent legal k e o =
    let a = (has_parent base h x parent legal k e).above in
    or_first (list_any (is_undo_of x) h) (is_undone h a.parent) (sym (undone_above h x a) ∙ (open_is h x o).1)
