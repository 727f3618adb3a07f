-- What an event changes of the marks.
use Rattle.std.proofs.Common.{◌≡◌, ◌≢◌, ℕ, suc, zero, ◌<◌, List, [], ◌∷◌, ◌++◌, get_or, set, map, append-nil, refl, ap, sym, ◌∙◌, arith, Bool, true, false, ◌&&◌, cond, Option, Some, None, ne_eqb}
use Rattle.tx_events.specs.declared.event.By.{By}
use Rattle.tx_events.specs.declared.event.Event.{Event}
use Rattle.tx_events.specs.declared.event.Event.TheVariants as events
use Rattle.tx_events.specs.IdLists.{Ascending}
use Rattle.tx_events.proofs.OpenGrowth.{ClosesNothing}
use Rattle.history_check.proofs.Searching.{all_at, further}
use Rattle.history_places.specs.declared.mark.IdMark.{IdMark}
use Rattle.history_places.specs.IdMarks.{IsMissing, IsPlaceOf, is_close, is_unclosed, mark_ids, mark_of, noted}

abbrev pub key : IdMark → ℕ
key m = m.id

abbrev pub Alone : Event → ℕ → Type 0
Alone e x = (m : IdMark) → m.id ≢ x → is_close m.parent m.id e ≡ false

-- the ids stay
pub ids_noted : (p : ℕ) (e : Event) (marks : List IdMark) → mark_ids (map (noted p e) marks) ≡ mark_ids marks
ids_noted p e [] = refl
ids_noted p e (m ∷ marks) =
    ap (λ t. t ∷ mark_ids (map (noted p e) marks)) (one (is_unclosed m.closed && is_close m.parent m.id e)) ∙ ap (λ t. m.id ∷ t) (ids_noted p e marks)
  where
    one : (b : Bool) → (cond {A = IdMark} b (record m { closed = Some p }) m).id ≡ m.id
    one true = refl
    one false = refl

-- an event that doesn't close the id leaves its mark
left : (p : ℕ) (e : Event) (m : IdMark) → is_close m.parent m.id e ≡ false → noted p e m ≡ m
left p e m f = ap (λ b. cond {A = IdMark} (is_unclosed m.closed && b) (record m { closed = Some p }) m) f ∙ off (is_unclosed m.closed)
  where
    off : (b : Bool) → cond {A = IdMark} (b && false) (record m { closed = Some p }) m ≡ m
    off true = refl
    off false = refl

pub note_missing : (p x : ℕ) (e : Event) (xs : List IdMark) → Alone e x → IsMissing xs x → xs ≡ map (noted p e) xs
note_missing p x e [] alone f = refl
note_missing p x e (s ∷ xs) alone f =
    ap (λ t. t ∷ xs) (sym (left p e s (alone s (λ q. f 0 (omega arith) s q))))
    ∙ ap (λ t. noted p e s ∷ t) (note_missing p x e xs alone (λ k l d q. f (suc k) (omega arith) d q))

pub note_at : (p x k : ℕ) (e : Event) (xs : List IdMark) (d : IdMark) → Alone e x → Ascending (mark_ids xs) → IsPlaceOf xs x k → set xs k (noted p e (get_or xs k d)) ≡ map (noted p e) xs
note_at p x k e [] d alone a i = absurd (omega (arith, i.0))
note_at p x zero e (s ∷ xs) d alone a i =
    let is : s.id ≡ x = i.1 d in
    ap (λ t. noted p e s ∷ t) (note_missing p x e xs alone (λ k l d f. let u : s.id < (get_or xs k d).id = all_at key (λ y. s.id < y) xs k d a.0 l in omega arith))
note_at p x (suc k) e (s ∷ xs) d alone a i =
    let next = further key s xs x k i in
    let f : s.id < (get_or xs k d).id = all_at key (λ y. s.id < y) xs k d a.0 next.0 in
    ap (λ t. t ∷ set xs k (noted p e (get_or xs k d))) (sym (left p e s (alone s (λ q. omega (arith, next.1 d)))))
    ∙ ap (λ t. noted p e s ∷ t) (note_at p x k e xs d alone a.1 next)

-- ---- which ids an event closes by itself

pub undo_alone : (by : By) (x : ℕ) → Alone (events.Undo by x) x
undo_alone by x m n = by_parent m.parent
  where
    by_parent : (o : Option ℕ) → is_close o m.id (events.Undo by x) ≡ false
    by_parent None = refl
    by_parent (Some q) = ne_eqb x m.id (λ q. n (sym q))

pub commit_alone : (by : By) (x : ℕ) → Alone (events.Commit by x) x
commit_alone by x m n = by_parent m.parent
  where
    by_parent : (o : Option ℕ) → is_close o m.id (events.Commit by x) ≡ false
    by_parent None = ne_eqb x m.id (λ q. n (sym q))
    by_parent (Some q) = refl

pub abort_alone : (by : By) (x : ℕ) → Alone (events.Abort by x) x
abort_alone by x m n = by_parent m.parent
  where
    by_parent : (o : Option ℕ) → is_close o m.id (events.Abort by x) ≡ false
    by_parent None = ne_eqb x m.id (λ q. n (sym q))
    by_parent (Some q) = refl

quiet_close : (e : Event) (o : Option ℕ) (x : ℕ) → ClosesNothing e → is_close o x e ≡ false
quiet_close (events.Undo by id) o x f = absurd f
quiet_close (events.Commit by top) o x f = absurd f
quiet_close (events.Abort by top) o x f = absurd f
quiet_close e None x f = refl
quiet_close e (Some q) x f = refl

note_quiet : (p : ℕ) (e : Event) (xs : List IdMark) → ClosesNothing e → xs ≡ map (noted p e) xs
note_quiet p e [] f = refl
note_quiet p e (s ∷ xs) f =
    ap (λ t. t ∷ xs) (sym (left p e s (quiet_close e s.parent s.id f))) ∙ ap (λ t. noted p e s ∷ t) (note_quiet p e xs f)

pub note_given : (p : ℕ) (e : Event) (xs new : List IdMark) (m : IdMark) → ClosesNothing e → new ≡ xs ++ m ∷ [] → mark_of p e ≡ m ∷ [] → new ≡ map (noted p e) xs ++ mark_of p e
note_given p e xs new m f pushed is = pushed ∙ ap (λ t. t ++ m ∷ []) (note_quiet p e xs f) ∙ ap (λ t. map (noted p e) xs ++ t) (sym is)

quiet : (p : ℕ) (e : Event) (xs : List IdMark) → ClosesNothing e → mark_of p e ≡ [] → xs ≡ map (noted p e) xs ++ mark_of p e
quiet p e xs f is = note_quiet p e xs f ∙ sym (append-nil (map (noted p e) xs)) ∙ ap (λ t. map (noted p e) xs ++ t) (sym is)

-- an event that gives no id and closes none
pub note_other : (p : ℕ) (e : Event) (xs : List IdMark) → ((by : By) (x : ℕ) → e ≡ events.Id by x → ⊥) → ((by : By) (under x : ℕ) → e ≡ events.Sub by under x → ⊥) → ((by : By) (x : ℕ) → e ≡ events.Undo by x → ⊥)
    → ((by : By) (x : ℕ) → e ≡ events.Commit by x → ⊥) → ((by : By) (x : ℕ) → e ≡ events.Abort by x → ⊥) → xs ≡ map (noted p e) xs ++ mark_of p e
note_other p (events.Id by x) xs i s u c a = absurd (i by x refl)
note_other p (events.Sub by under x) xs i s u c a = absurd (s by under x refl)
note_other p (events.Undo by x) xs i s u c a = absurd (u by x refl)
note_other p (events.Commit by x) xs i s u c a = absurd (c by x refl)
note_other p (events.Abort by x) xs i s u c a = absurd (a by x refl)
note_other p (events.Snap name by) xs i s u c a = quiet p (events.Snap name by) xs tt refl
note_other p (events.SnapDrop name by) xs i s u c a = quiet p (events.SnapDrop name by) xs tt refl
note_other p (events.Oldest by oldest) xs i s u c a = quiet p (events.Oldest by oldest) xs tt refl
note_other p (events.Ask by x) xs i s u c a = quiet p (events.Ask by x) xs tt refl
