-- Live snapshots: each session has one of a name.
use Rattle.std.proofs.Common.{◌≡◌, ℕ, ◌+◌, List, [], ◌∷◌, ◌++◌, refl, ap, sym, ◌∙◌, inl, inr, ⊎_elim, arith, Bool, true, false, not, ◌&&◌, ◌==◌, ◌||◌, cond, Option, Some, None, eqb-true}
use Rattle.std.proofs.lemmas.List.Sums.{sum_by-cons}
use Rattle.std.specs.Cmp.Lexicographic.{pointwise, same_text}
use Rattle.std.specs.List.{filter, list_any}
use Rattle.std.specs.Prelude.{nat_eq, sum_by, IfSome, is_some}
use Rattle.tx_events.proofs.ListSteps.{eqb-refl, list_any-push, not_both}
use Rattle.tx_events.proofs.Membership.{Has}
use Rattle.tx_events.proofs.Names.{same_name_refl, same_name_equal}
use Rattle.std.proofs.Math.Bool.{or-true}
use Rattle.std.proofs.lemmas.Bool.{false≢true, or_parts, and_parts}
use Rattle.tx_events.specs.Events.{same_name}
use Rattle.tx_events.specs.Horizon.{LiveSnap, is_snap_of}
use Rattle.proc_table.specs.Lives.{AreApart, live_xmin, others}

-- names
pointwise_refl : (xs : List ℕ) → pointwise nat_eq xs xs ≡ true
pointwise_refl [] = refl
pointwise_refl (x ∷ xs) = rw (eqb-refl x) (pointwise_refl xs)

pub same_names : (xs ys : List ℕ) → pointwise nat_eq xs ys ≡ same_name xs ys
same_names xs ys = one (pointwise nat_eq xs ys) refl (same_name xs ys) refl
  where
    one : (b : Bool) → pointwise nat_eq xs ys ≡ b → (c : Bool) → same_name xs ys ≡ c → b ≡ c
    one true e true f = refl
    one false e false f = refl
    one true e false f = sym (ap (same_name xs) (sym (same_text xs ys (sym e))) ∙ same_name_refl xs) ∙ f
    one false e true f = sym e ∙ ap (pointwise nat_eq xs) (sym (same_name_equal xs ys f)) ∙ pointwise_refl xs

-- two of one session and name
pub twin_session : (session : ℕ) (name : List ℕ) (s : LiveSnap) → is_snap_of session name s ≡ true → s.session ≡ session
twin_session session name s e = eqb-true s.session session (and_parts (s.session == session) (same_name s.name name) e).0

pub twin_name : (session : ℕ) (name : List ℕ) (s : LiveSnap) → is_snap_of session name s ≡ true → s.name ≡ name
twin_name session name s e = same_name_equal s.name name (and_parts (s.session == session) (same_name s.name name) e).1

pub own_twin : (s : LiveSnap) → is_snap_of s.session s.name s ≡ true
own_twin s = ap (λ b. b && same_name s.name s.name) (eqb-refl s.session) ∙ same_name_refl s.name

apart_swap : (s t : LiveSnap) → is_snap_of t.session t.name s ≡ false → is_snap_of s.session s.name t ≡ false
apart_swap s t f = one (is_snap_of s.session s.name t) refl
  where
    one : (b : Bool) → is_snap_of s.session s.name t ≡ b → b ≡ false
    one false e = refl
    one true e =
        not_both (is_snap_of t.session t.name s) (ap (λ n. is_snap_of n t.name s) (twin_session s.session s.name t e) ∙ ap (λ n. is_snap_of s.session n s) (twin_name s.session s.name t e) ∙ own_twin s) f

pub apart_push : (ss : List LiveSnap) (t : LiveSnap) → AreApart ss → list_any (is_snap_of t.session t.name) ss ≡ false → AreApart (ss ++ t ∷ [])
apart_push [] t a f = (refl, tt)
apart_push (s ∷ ss) t a f = (
  list_any-push (is_snap_of s.session s.name) ss t
      ∙ ap (λ b. b || is_snap_of s.session s.name t) a.0
      ∙ apart_swap s t ((or_parts (is_snap_of t.session t.name s) (list_any (is_snap_of t.session t.name) ss) f).0),
  apart_push ss t a.1 ((or_parts (is_snap_of t.session t.name s) (list_any (is_snap_of t.session t.name) ss) f).1),
)

any_filtered : {X : Type 0} (p q : X → Bool) (xs : List X) → list_any p xs ≡ false → list_any p (filter q xs) ≡ false
any_filtered p q [] f = refl
any_filtered p q (x ∷ xs) f = one (q x) (any_filtered p q xs ((or_parts (p x) (list_any p xs) f).1))
  where
    one : (c : Bool) → list_any p (filter q xs) ≡ false → list_any p (cond c (x ∷ filter q xs) (filter q xs)) ≡ false
    one true g = ap (λ b. b || list_any p (filter q xs)) ((or_parts (p x) (list_any p xs) f).0) ∙ g
    one false g = g

pub apart_filtered : (q : LiveSnap → Bool) (ss : List LiveSnap) → AreApart ss → AreApart (filter q ss)
apart_filtered q [] a = tt
apart_filtered q (s ∷ ss) a = one (q s) (apart_filtered q ss a.1)
  where
    one : (c : Bool) → AreApart (filter q ss) → AreApart (cond c (s ∷ filter q ss) (filter q ss))
    one true g = (any_filtered (is_snap_of s.session s.name) q ss a.0, g)
    one false g = g

pub kept_whole : {X : Type 0} (p : X → Bool) (xs : List X) → list_any p xs ≡ false → filter (λ x. not (p x)) xs ≡ xs
kept_whole p [] f = refl
kept_whole p (x ∷ xs) f = rw ((or_parts (p x) (list_any p xs) f).0) (ap (λ t. x ∷ t) (kept_whole p xs ((or_parts (p x) (list_any p xs) f).1)))

pub has_any : {X : Type 0} (p : X → Bool) (xs : List X) (x : X) → Has xs x → p x ≡ true → list_any p xs ≡ true
has_any p [] x h e = absurd h
has_any p (y ∷ ys) x h e = ⊎_elim (λ (f : y ≡ x). ap (λ b. b || list_any p ys) (ap p f ∙ e)) (λ t. ap (λ b. p y || b) (has_any p ys x t e) ∙ or-true (p y)) h

-- what is looked up under a name, after one more snapshot and after one less
pub live_more : (ss : List LiveSnap) (r : LiveSnap) → list_any (is_snap_of r.session r.name) ss ≡ false → (session : ℕ) (name : List ℕ) → live_xmin session name (ss ++ r ∷ []) ≡ cond (is_snap_of session name r) (Some r.xmin) (live_xmin session name ss)
live_more [] r f session name = refl
live_more (s ∷ ss) r f session name =
    one (is_snap_of session name s) refl (live_more ss r ((or_parts (is_snap_of r.session r.name s) (list_any (is_snap_of r.session r.name) ss) f).1) session name)
  where
    apart : is_snap_of session name s ≡ true → (b : Bool) → is_snap_of session name r ≡ b → b ≡ false
    apart e false g = refl
    apart e true g =
        not_both (is_snap_of r.session r.name s)
        (ap (λ n. is_snap_of n r.name s) (twin_session session name r g) ∙ ap (λ n. is_snap_of session n s) (twin_name session name r g) ∙ e) ((or_parts (is_snap_of r.session r.name s) (list_any (is_snap_of r.session r.name) ss) f).0)

    one : (b : Bool) → is_snap_of session name s ≡ b → live_xmin session name (ss ++ r ∷ []) ≡ cond (is_snap_of session name r) (Some r.xmin) (live_xmin session name ss) →
        cond b (Some s.xmin) (live_xmin session name (ss ++ r ∷ [])) ≡ cond (is_snap_of session name r) (Some r.xmin) (cond b (Some s.xmin) (live_xmin session name ss))
    one true e i = sym (ap (λ b. cond b (Some r.xmin) (Some s.xmin)) (apart e (is_snap_of session name r) refl))
    one false e i = i

pub live_others : (ss : List LiveSnap) (r : LiveSnap) (session : ℕ) (name : List ℕ) → live_xmin session name (others r.session r.name ss) ≡ cond (is_snap_of session name r) None (live_xmin session name ss)
live_others [] r session name = one (is_snap_of session name r)
  where
    one : (b : Bool) → None ≡ cond b None (let o : Option ℕ = None in o)
    one true = refl
    one false = refl
live_others (s ∷ ss) r session name =
    one (is_snap_of r.session r.name s) refl (is_snap_of session name s) refl (is_snap_of session name r) refl (live_others ss r session name)
  where
    rest : Option ℕ
    rest = live_xmin session name ss

    one : (b : Bool) → is_snap_of r.session r.name s ≡ b → (c : Bool) → is_snap_of session name s ≡ c → (d : Bool) → is_snap_of session name r ≡ d → live_xmin session name (others r.session r.name ss) ≡ cond d None rest →
        live_xmin session name (cond (not b) (s ∷ others r.session r.name ss) (others r.session r.name ss)) ≡ cond d None (cond c (Some s.xmin) rest)
    one true e c f true g i = i
    one true e true f false g i =
        not_both (is_snap_of session name r)
        (ap (λ n. (n == session) && same_name r.name name) (sym (twin_session r.session r.name s e)) ∙ ap (λ n. (s.session == session) && same_name n name) (sym (twin_name r.session r.name s e)) ∙ f) g
    one true e false f false g i = i
    one false e true f true g i =
        not_both (is_snap_of r.session r.name s)
        (ap (λ n. is_snap_of n r.name s) (twin_session session name r g) ∙ ap (λ n. is_snap_of session n s) (twin_name session name r g) ∙ f) e
    one false e c f false g i = ap (λ b. cond b (Some s.xmin) (live_xmin session name (others r.session r.name ss))) f ∙ ap (cond c (Some s.xmin)) i
    one false e false f true g i = ap (λ b. cond b (Some s.xmin) (live_xmin session name (others r.session r.name ss))) f ∙ i

-- what is found is a live snapshot
pub live_some : (ss : List LiveSnap) (session : ℕ) (name : List ℕ) → IfSome (live_xmin session name ss) (λ x. Has ss (record { session = session; name = name; xmin = x }))
live_some [] session name = tt
live_some (s ∷ ss) session name = one (is_snap_of session name s) refl (live_some ss session name)
  where
    here : ℕ → LiveSnap
    here x = record { session = session; name = name; xmin = x }

    same_snap : {p p' r : ℕ} {q q' : List ℕ} → p ≡ p' → q ≡ q' → (let t : LiveSnap = record { session = p; name = q; xmin = r } in t) ≡ (let t : LiveSnap = record { session = p'; name = q'; xmin = r } in t)
    same_snap e f = rw (e, f) refl

    later : (o : Option ℕ) → IfSome o (λ x. Has ss (here x)) → IfSome o (λ x. Has (s ∷ ss) (here x))
    later None h = h
    later (Some x) h = inr h

    one : (b : Bool) → is_snap_of session name s ≡ b → IfSome (live_xmin session name ss) (λ x. Has ss (here x)) → IfSome (cond b (Some s.xmin) (live_xmin session name ss)) (λ x. Has (s ∷ ss) (here x))
    one true e h = inl (same_snap (twin_session session name s e) (twin_name session name s e))
    one false e h = later (live_xmin session name ss) h

pub live_is_some : (ss : List LiveSnap) (session : ℕ) (name : List ℕ) → is_some (live_xmin session name ss) ≡ list_any (is_snap_of session name) ss
live_is_some [] session name = refl
live_is_some (s ∷ ss) session name = one (is_snap_of session name s) (live_is_some ss session name)
  where
    one : (b : Bool) → is_some (live_xmin session name ss) ≡ list_any (is_snap_of session name) ss → is_some (cond b (Some s.xmin) (live_xmin session name ss)) ≡ (b || list_any (is_snap_of session name) ss)
    one true i = refl
    one false i = i

pub live_found : (ss : List LiveSnap) (session : ℕ) (name : List ℕ) → list_any (is_snap_of session name) ss ≡ true → (x : ℕ) × Has ss (record { session = session; name = name; xmin = x })
live_found ss session name e = one (live_xmin session name ss) (live_is_some ss session name ∙ e) (live_some ss session name)
  where
    one : (o : Option ℕ) → is_some o ≡ true → IfSome o (λ x. Has ss (record { session = session; name = name; xmin = x })) → (x : ℕ) × Has ss (record { session = session; name = name; xmin = x })
    one None f h = absurd (false≢true f)
    one (Some x) f h = (x, h)

-- one of them is taken out
pub one_taken : (g : LiveSnap → ℕ) (ss : List LiveSnap) (r : LiveSnap) → AreApart ss → Has ss r → sum_by g (others r.session r.name ss) + g r ≡ sum_by g ss
one_taken g [] r a h = absurd h
one_taken g (s ∷ ss) r a h =
    let whole : sum_by g (s ∷ ss) ≡ g s + sum_by g ss = sum_by-cons g s ss in
    ⊎_elim
    (λ (e : s ≡ r).
    let mine : is_snap_of r.session r.name s ≡ true = ap (is_snap_of r.session r.name) e ∙ own_twin r in
    let none : list_any (is_snap_of r.session r.name) ss ≡ false = ap (λ (t : LiveSnap). list_any (is_snap_of t.session t.name) ss) (sym e) ∙ a.0 in
    let left : others r.session r.name (s ∷ ss) ≡ ss = ap (λ b. cond (not b) (s ∷ others r.session r.name ss) (others r.session r.name ss)) mine ∙ kept_whole (is_snap_of r.session r.name) ss none in
    let sum : sum_by g (others r.session r.name (s ∷ ss)) ≡ sum_by g ss = ap (sum_by g) left in
    let same : g s ≡ g r = ap g e in
    omega arith)
    (λ (t : Has ss r).
    let left : others r.session r.name (s ∷ ss) ≡ s ∷ others r.session r.name ss = ap (λ b. cond (not b) (s ∷ others r.session r.name ss) (others r.session r.name ss)) (another t (is_snap_of r.session r.name s) refl) in
    let sum : sum_by g (others r.session r.name (s ∷ ss)) ≡ g s + sum_by g (others r.session r.name ss) = ap (sum_by g) left ∙ sum_by-cons g s (others r.session r.name ss) in
    let i : sum_by g (others r.session r.name ss) + g r ≡ sum_by g ss = one_taken g ss r a.1 t in
    omega arith)
    h
  where
    another : Has ss r → (b : Bool) → is_snap_of r.session r.name s ≡ b → b ≡ false
    another t false e = refl
    another t true e =
        not_both (list_any (is_snap_of s.session s.name) ss)
        (has_any (is_snap_of s.session s.name) ss r t
        (ap (λ n. is_snap_of n s.name r) (twin_session r.session r.name s e) ∙ ap (λ n. is_snap_of r.session n r) (twin_name r.session r.name s e) ∙ own_twin r)) a.0
