-- A table over lists without entries, and the names that its host has.
use Rattle.std.proofs.Common.{ℕ, zero, suc, ◌+◌, ◌*◌, ◌<◌, ◌≤◌, ◌≡◌, ◌≢◌, ◌⊎◌, ⊎_elim, Bool, true, false, ◌||◌, not, cond, eqb, List, [], ◌∷◌, Contains, None, Some, length, replicate, get_or, inl, inr, refl, sym, ap, subst, ◌∙◌, arith}
use Rattle.std.proofs.lemmas.Bool.{lt-ltb, eq-eqb}
use Rattle.std.proofs.lemmas.Bool.Decides.{eqb_tells, nat_tests}
use Rattle.std.proofs.lemmas.List.{get_or-set_other, length-replicate}
use Rattle.std.proofs.Math.Bool.{or-true}
use Rattle.std.specs.List.{slice_get}
use Rattle.notes.specs.Lists.{at, own}
use Rattle.notes.proofs.Names.{blank}
use Rattle.hall.specs.declared.view.View.{View}
use Rattle.hall.specs.declared.writer.Writer.TheVariants.{Lock}
use Rattle.hall.specs.Calls.{ShownBy}
use Rattle.hall.specs.Rule.{Holds}
use Rattle.hall.specs.Told.{asking, either_of, given, giving}
use Rattle.hall.proofs.Merging.{either_at}
use Rattle.tx_events.specs.Ids.{IsFullId, id_before, next_id}
use Rattle.tx_events.specs.Base.{IsBase}
use Rattle.tx_events.specs.Horizon.{oldest_xmin}
use Rattle.tx_events.proofs.IdOrder.{before_below, next_least, next_of_before}
use Rattle.tx_events.proofs.Membership.{Has, contains_has, has_contains}
use Rattle.tx_core.specs.declared.entry.Entry.{Entry}
use Rattle.tx_core.specs.declared.entry.Start.{Start}
use Rattle.tx_core.specs.Entries.{session_of}
use Rattle.tx_core.specs.Locks.{first_request, oldest_word, xmin_word}
use Rattle.tx_core.proofs.Opening.{opens}
use Rattle.session_levels.specs.Stands.{IsFresh}
use Rattle.engine_parts.specs.declared.session.Session.{Session}
use Rattle.engine_parts.specs.declared.session.Stage.TheVariants as stages
use Rattle.engine_parts.specs.Law.{number_of_word, writer_of}
use Rattle.engine_parts.specs.New.{IsNew}
use Rattle.engine_parts.specs.Sessions.{AreGivenBefore}
use Rattle.engine_host.specs.declared.cluster.Cluster.{Cluster}
use Rattle.engine_host.specs.Hosts.{without, words_of}

-- ---- lists without entries

pub nothing_at : {E : Type 0} (n place : ℕ) → at (replicate {A = List E} n []) place ≡ []
nothing_at zero place = refl
nothing_at (suc n) zero = refl
nothing_at (suc n) (suc place) = nothing_at n place

-- how many lists there are, those of the locks, of the two words and of the sessions' requests
abbrev pub places_of : Start → ℕ
places_of start = 3 + 4 * start.banks + (2 + start.sessions)

-- ---- the published words

pub words_long : (c : Cluster) → length (words_of c) ≡ c.sessions + 2
words_long c = let zeros : length (replicate {A = ℕ} c.sessions 0) ≡ c.sessions = length-replicate {A = ℕ} c.sessions 0 in omega (arith, zeros)

-- the oldest xmin is at first the next id
pub xmin_first : (n : ℕ) → IsFullId n → oldest_xmin n [] ≡ n
xmin_first n full =
    let some : 0 < n = omega (arith, full) in
    let low : n ≤ next_id (id_before n) = next_of_before n full in
    let high : next_id (id_before n) ≤ n = next_least (id_before n) n full (before_below n some) in
    omega (arith, low, high)

pub oldest_shown : (start : Start) (place : ℕ) → place ≡ oldest_word start → number_of_word start place [] ≡ start.base.oldest
oldest_shown start place is = rw (eq-eqb place (oldest_word start) is) refl

pub xmin_shown : (start : Start) (place : ℕ) → place ≡ xmin_word start → IsFullId start.base.next → number_of_word start place [] ≡ start.base.next
xmin_shown start place is full =
    let differs : eqb place (oldest_word start) ≡ false = grind (arith, nat_tests) in
    rw (differs, eq-eqb place (xmin_word start) is) (xmin_first start.base.next full)

pub other_shown : (start : Start) (place : ℕ) → first_request start ≤ place → number_of_word start place [] ≡ 0
other_shown start place from =
    let differs : eqb place (oldest_word start) ≡ false = grind (arith, nat_tests) in
    let again : eqb place (xmin_word start) ≡ false = grind (arith, nat_tests) in
    rw (differs, again) refl

zeros_get : (n k x : ℕ) → slice_get (replicate n 0) k ≡ Some x → 0 ≡ x
zeros_get zero k x at = absurd cc
zeros_get (suc n) zero x at = cc
zeros_get (suc n) (suc k) x at = zeros_get n k x at

pub words_shown : (c : Cluster) (start : Start) (cells : ℕ) (lists : List (List Entry)) → cells ≡ oldest_word start → start.base ≡ c.base → IsBase c.base → ((place : ℕ) → at lists place ≡ [])
    → ShownBy number_of_word start cells (words_of c) lists
words_shown c start cells lists laid base is_base empty zero x get =
    let is : cells + 0 ≡ oldest_word start = omega (arith, laid) in
    let found : c.base.oldest ≡ x = cc in
    ap (λ (es : List Entry). number_of_word start (cells + 0) es) (empty (cells + 0)) ∙ (oldest_shown start (cells + 0) is ∙ (ap (λ b. b.oldest) base ∙ found))
words_shown c start cells lists laid base is_base empty (suc zero) x get =
    let is : cells + 1 ≡ xmin_word start = omega (arith, laid) in
    let found : c.base.next ≡ x = cc in
    let full : IsFullId start.base.next = subst (λ n. IsFullId n) (sym (ap (λ b. b.next) base)) is_base.full in
    ap (λ (es : List Entry). number_of_word start (cells + 1) es) (empty (cells + 1)) ∙ (xmin_shown start (cells + 1) is full ∙ (ap (λ b. b.next) base ∙ found))
words_shown c start cells lists laid base is_base empty (suc (suc w)) x get =
    let from : first_request start ≤ cells + suc (suc w) = omega (arith, laid) in
    ap (λ (es : List Entry). number_of_word start (cells + suc (suc w)) es) (empty (cells + suc (suc w))) ∙ (other_shown start (cells + suc (suc w)) from ∙ zeros_get c.sessions w x get)

-- a lock's list is added to by whoever is inside
pub lock_writes : (start : Start) (lock : ℕ) → lock < oldest_word start → writer_of start lock ≡ Lock lock
lock_writes start lock inside = rw (lt-ltb lock (oldest_word start) inside) refl

-- ---- names

has_kept : (xs : List ℕ) (number n : ℕ) → n ≢ number → Has xs n → Has (without number xs) n
has_kept [] number n differs h = absurd h
has_kept (x ∷ xs) number n differs h =
    ⊎_elim
    (λ (same : (eqb x number ≡ true) × (x ≡ number)).
    ⊎_elim (λ (is : x ≡ n). absurd (differs (sym is ∙ same.1))) (λ t. subst (λ (b : Bool). Has (cond (not b) (x ∷ without number xs) (without number xs)) n) (sym same.0) (has_kept xs number n differs t)) h)
    (λ (other : (eqb x number ≡ false) × (x ≢ number)).
    subst (λ (b : Bool). Has (cond (not b) (x ∷ without number xs) (without number xs)) n) (sym other.0) (⊎_elim (λ is. inl is) (λ t. inr (has_kept xs number n differs t)) h))
    (eqb_tells x number)

module _ {S E : Type 0} where
  -- all but one name stay
  pub name_left : (v w : View S E) (number n : ℕ) → w ≡ giving (asking number v) → n ≢ number → Holds v n → Holds w n
  name_left v w number n is differs has = subst (λ (u : View S E). Holds u n) (sym is) (get_or-set_other v.holds number n false false differs ∙ has)

  pub name_given : (v w : View S E) (number n : ℕ) (away : List ℕ) → w ≡ giving (asking number v) → Holds v n ⊎ Contains away n → Holds w n ⊎ Contains (number ∷ away) n
  name_given v w number n away is has =
      ⊎_elim
      (λ (same : (eqb n number ≡ true) × (n ≡ number)). inr (has_contains (number ∷ away) n (inl (sym same.1))))
      (λ (other : (eqb n number ≡ false) × (n ≢ number)).
      ⊎_elim
      (λ (h : Holds v n). inl (name_left v w number n is other.1 h))
      (λ (k : Contains away n). inr (has_contains (number ∷ away) n (inr (contains_has away n k))))
      has)
      (eqb_tells n number)

  -- the pass that is given has this name and no other
  pub name_of_given : (v w : View S E) (number n : ℕ) → w ≡ given (asking number v) → Holds w n → n ≡ number
  name_of_given v w number n is has =
      ⊎_elim
      (λ (same : (eqb n number ≡ true) × (n ≡ number)). same.1)
      (λ (other : (eqb n number ≡ false) × (n ≢ number)).
      absurd (let b : false ≡ true = sym (get_or-set_other (replicate (length v.holds) false) number n true false other.1 ∙ blank (length v.holds) n) ∙ (ap (λ (u : View S E). get_or u.holds n false) (sym is) ∙ has) in cc))
      (eqb_tells n number)

  -- a pass has the names of both of which it was joined
  pub name_kept : (v w u : View S E) (n : ℕ) → u.holds ≡ either_of v.holds w.holds → Holds v n → Holds u n
  name_kept v w u n is has = ap (λ (l : List Bool). get_or l n false) is ∙ (either_at v.holds w.holds n ∙ ap (λ b. b || get_or w.holds n false) has)

  pub name_taken : (v w u : View S E) (n : ℕ) → u.holds ≡ either_of v.holds w.holds → Holds w n → Holds u n
  name_taken v w u n is has =
      ap (λ (l : List Bool). get_or l n false) is ∙ (either_at v.holds w.holds n ∙ (ap (λ b. get_or v.holds n false || b) has ∙ or-true (get_or v.holds n false)))

  -- the name of a pass that was joined is back
  pub name_back : (v w u : View S E) (number n : ℕ) (away : List ℕ) → u.holds ≡ either_of v.holds w.holds → Holds w number → Holds v n ⊎ Contains away n → Holds u n ⊎ Contains (without number away) n
  name_back v w u number n away is own has =
      ⊎_elim
      (λ (h : Holds v n). inl (name_kept v w u n is h))
      (λ (k : Contains away n).
      ⊎_elim
      (λ (same : (eqb n number ≡ true) × (n ≡ number)). inl (name_taken v w u n is (subst (λ m. get_or w.holds m false ≡ true) (sym same.1) own)))
      (λ (other : (eqb n number ≡ false) × (n ≢ number)). inr (has_contains (without number away) n (has_kept away number n other.1 (contains_has away n k))))
      (eqb_tells n number))
      has

-- ---- sessions let in

-- what a pass knows that was split off from one that has seen nothing
pub new_knows : (start : Start) (v w : View Start Entry) (number : ℕ) (s : Session) → IsBase start.base → AreGivenBefore start → ((place : ℕ) → at v.seen place ≡ []) → w ≡ given (asking number v) → number < start.sessions → 5 + 4 * start.banks ≤ length w.seen
    → IsFresh s.levels → s.stage ≡ stages.Clear → s.unlinked ≡ None → s.making ≡ None → IsNew start w number s
new_knows start v w number s base earlier unseen is known wide fresh stage unlinked making =
    let bare : (place : ℕ) → at w.seen place ≡ [] = λ place. ap (λ (u : View Start Entry). at u.seen place) is ∙ unseen place in record {
      base = base;
      before = earlier;
      kept = opens start w.seen bare;
      empty = λ place. ap (own session_of number) (bare place);
      name = ap (λ (u : View Start Entry). u.name) is;
      known = known;
      free = ap (λ (u : View Start Entry). u.stage) is;
      wide = wide;
      fresh = fresh;
      stage = stage;
      unlinked = unlinked;
      making = making;
    }
