-- What the published words show rises, so what the history shows at its end may be published.
use Rattle.std.proofs.Common.{List, None, Some, [], ap, append-nil, append_assoc, arith, drop, inl, inr, length, refl, slice_get, subst, sym, take, take-append-drop, ℕ, ⊎_elim, ◌++◌, ◌<◌, ◌∙◌, ◌∷◌, ◌≡◌, ◌≤◌}
use Rattle.std.proofs.Math.Seq.{take-append_seam}
use Rattle.tx_events.specs.declared.event.By.{By}
use Rattle.tx_events.specs.declared.event.Event.{Event}
use Rattle.tx_events.specs.declared.event.Event.TheVariants as events
use Rattle.tx_events.specs.declared.record.Counters.{Counters}
use Rattle.tx_events.proofs.GivenIds.{legal_front, legal_last, legal_take}
use Rattle.tx_events.proofs.HorizonSteps.{oldest_push}
use Rattle.tx_events.proofs.Horizons.{xmin_at}
use Rattle.tx_events.proofs.Membership.{Has, all_at, all_from, by_end, has_filter_map, has_place, place_has}
use Rattle.tx_events.proofs.ListSteps.{le_or_over}
use Rattle.tx_events.specs.Base.{IsBase}
use Rattle.std.specs.List.{cons_option}
use Rattle.tx_events.specs.History.{IsLegal, MayCome}
use Rattle.tx_events.specs.Horizon.{announced_after, oldest_id, oldest_xmin}
use Rattle.tx_core.specs.declared.entry.Entry.{Entry}
use Rattle.tx_core.specs.declared.entry.Kind.{Kind}
use Rattle.tx_core.specs.declared.entry.Kind.TheVariants as kinds
use Rattle.tx_core.proofs.HorizonLaws.{positive}
use Rattle.tx_core.proofs.Lasting.{history_grows}
use Rattle.tx_core.proofs.Quiet.{post_keeps}
use Rattle.tx_core.specs.Entries.{history}
use Rattle.tx_core.specs.Laws.{OldestPostKeeps, XminPostKeeps}
use Rattle.tx_core.specs.Consequences.{IsLater, OldestRises, PostsGoOn}
use Rattle.tx_core.proofs.Taking.{get_in_take, take_in}
use Rattle.notes.specs.Lists.{at}
use Rattle.tx_core.specs.Locks.{oldest_word, xmin_word}
use Rattle.tx_core.specs.PostsFollow.{IsFound, PostIn, posted_in, posts}

-- an event raises the announced oldest id, or leaves it
pub announced_rises : (base : Counters) (h : List Event) (e : Event) → MayCome base h e → oldest_id base.oldest h ≤ announced_after (oldest_id base.oldest h) e
announced_rises base h (events.Oldest by oldest) may = may.0
announced_rises base h _ may = omega arith

oldest_at : (base : Counters) (h es : List Event) → IsLegal base (h ++ es) → oldest_id base.oldest h ≤ oldest_id base.oldest (h ++ es)
oldest_at base h es legal =
    by_end (λ es. IsLegal base (h ++ es) → oldest_id base.oldest h ≤ oldest_id base.oldest (h ++ es))
    (λ l. subst (λ t. oldest_id base.oldest h ≤ oldest_id base.oldest t) (sym (append-nil h)) (omega arith))
    (λ es e before l.
    let split : h ++ (es ++ e ∷ []) ≡ (h ++ es) ++ e ∷ [] = sym (append_assoc h es (e ∷ [])) in
    let m : IsLegal base ((h ++ es) ++ e ∷ []) = subst (IsLegal base) split l in
    let a = before (legal_front base (h ++ es) e m) in
    let b : oldest_id base.oldest (h ++ es) ≤ oldest_id base.oldest ((h ++ es) ++ e ∷ []) =
    subst (λ n. oldest_id base.oldest (h ++ es) ≤ n) (sym (oldest_push base.oldest (h ++ es) e)) (announced_rises base (h ++ es) e (legal_last base (h ++ es) e m)) in
    subst (λ t. oldest_id base.oldest h ≤ oldest_id base.oldest t) (sym split) (omega arith))
    es legal

pub oldest_rises : OldestRises
oldest_rises start lists more k grows =
    let b = history_grows lists more grows in
    subst (λ t. oldest_id start.base.oldest (history lists) ≤ oldest_id start.base.oldest t) b.1
    (oldest_at start.base (history lists) b.0 (subst (IsLegal start.base) (sym b.1) k.events.legal))

-- at each place of a history something is shown that is not past what is shown at its end
abbrev Rises : (List Event → ℕ) → List Event → Type 0
Rises shown h = (p : ℕ) → shown (take p h) ≤ shown h

pub oldest_by_places : (base : Counters) (h : List Event) → IsLegal base h → Rises (oldest_id base.oldest) h
oldest_by_places base h legal p =
    let split = take-append-drop p h in
    subst (λ t. oldest_id base.oldest (take p h) ≤ oldest_id base.oldest t) split (oldest_at base (take p h) (drop p h) (subst (IsLegal base) (sym split) legal))

xmin_by_places : (base : Counters) (h : List Event) → IsLegal base h → IsBase base → Rises (oldest_xmin base.next) h
xmin_by_places base h legal is p =
    let split = take-append-drop p h in
    subst (λ t. oldest_xmin base.next (take p h) ≤ oldest_xmin base.next t) split (xmin_at base (take p h) (drop p h) (subst (IsLegal base) (sym split) legal) is.full (positive base.next is.full))

pub post_kind : (kind : Kind) (number : ℕ) → posted_in kind ≡ Some number → kind ≡ kinds.Post number
post_kind (kinds.Post other) number g = let q : other ≡ number = cc in ap kinds.Post q
post_kind _ number g = absurd cc

-- what is shown at the end may be published, where all that was published before was so too
found_now : (shown : List Event → ℕ) (lists : List (List Entry)) (before : List Entry) → Rises shown (history lists)
    → ((p : ℕ) (e : Entry) (number : ℕ) → slice_get before p ≡ Some e → e.kind ≡ kinds.Post number → IsFound shown lists (take p before) number) → IsFound shown lists before (shown (history lists))
found_now shown lists before rises each =
    let h : List Event = history lists in
    let all : take (length h) h ≡ h = ap (λ (t : List Event). take (length h) t) (sym (append-nil h)) ∙ take-append_seam h [] in
    record {
      place = length h;
      within = omega arith;
      found = ap shown (sym all);
      rises = all_from (λ earlier. earlier ≤ shown h) (posts before) (λ earlier k.
          let r = has_filter_map (λ (e : Entry). posted_in e.kind) before earlier k in
          let p = has_place before r.0 r.1 in
          let f = each p.0 r.0 earlier p.1 (post_kind r.0.kind earlier r.2) in
          let up = rises f.place in let same = f.found in omega arith);
    }

pub oldest_post_law : OldestPostKeeps
oldest_post_law start seen by k form =
    let h : List Event = history seen in
    let lock : ℕ = oldest_word start in
    let found = found_now (oldest_id start.base.oldest) seen (at seen lock) (oldest_by_places start.base h k.events.legal)
    (λ p e number here g. (subst (PostIn start seen lock (take p (at seen lock))) g (k.posts.each.each lock p e here)).oldest refl) in
    post_keeps start seen lock by (oldest_id start.base.oldest h) (inl refl) (record { oldest = λ q. found; xmin = λ (q : lock ≡ xmin_word start). absurd (omega arith); form = λ q. form })

pub xmin_post_law : XminPostKeeps
xmin_post_law start seen by k base =
    let h : List Event = history seen in
    let lock : ℕ = xmin_word start in
    let found = found_now (oldest_xmin start.base.next) seen (at seen lock) (xmin_by_places start.base h k.events.legal base)
    (λ p e number here g. (subst (PostIn start seen lock (take p (at seen lock))) g (k.posts.each.each lock p e here)).xmin refl) in
    post_keeps start seen lock by (oldest_xmin start.base.next h) (inr refl) (record { oldest = λ (q : lock ≡ oldest_word start). absurd (omega arith); xmin = λ q. found; form = λ (q : lock ≡ oldest_word start). absurd (omega arith) })

has_posts : (es : List Entry) (e : Entry) (number : ℕ) → Has es e → posted_in e.kind ≡ Some number → Has (posts es) number
has_posts [] e number k g = absurd k
has_posts (f ∷ es) e number k g =
    ⊎_elim
    (λ (q : f ≡ e). subst (λ o. Has (cons_option o (posts es)) number) (sym (ap (λ (z : Entry). posted_in z.kind) q ∙ g)) (inl refl))
    (λ t. let r = has_posts es e number t g in elim (posted_in f.kind) as (λ o. Has (cons_option o (posts es)) number) [ None ↦ r | Some s ↦ inr r ])
    k

later : (shown : List Event → ℕ) (lists : List (List Entry)) (lock : ℕ) → ((p q : ℕ) → p ≤ q → shown (take p (history lists)) ≤ shown (take q (history lists)))
    → ((j : ℕ) (b : By) (n : ℕ) → slice_get (at lists lock) j ≡ Some (record { by = b; kind = kinds.Post n }) → IsFound shown lists (take j (at lists lock)) n) → IsLater shown lists lock
later shown lists lock rises each i j m n p a b at_i at_j lt within here =
    let f = each j b n at_j in
    let es : List Entry = at lists lock in
    let e : Entry = record { by = a; kind = kinds.Post m } in
    let among : Has (posts (take j es)) m = has_posts (take j es) e m (place_has (take j es) i e (get_in_take j i es e lt at_i)) refl in
    let le : m ≤ n = all_at (λ earlier. earlier ≤ n) (posts (take j es)) m f.rises among in
    let same : n ≡ shown (take f.place (history lists)) = f.found in
    ⊎_elim
    (λ (on : p ≤ f.place). (f.place, on, f.within, same))
    (λ (back : f.place < p). let up : shown (take f.place (history lists)) ≤ shown (take p (history lists)) = rises f.place p (omega arith) in (p, omega arith, within, omega arith))
    (le_or_over p f.place)

-- what is shown at places, of a legal history
pub oldest_between : (base : Counters) (h : List Event) (p q : ℕ) → IsLegal base h → p ≤ q → oldest_id base.oldest (take p h) ≤ oldest_id base.oldest (take q h)
oldest_between base h p q legal le =
    subst (λ t. oldest_id base.oldest t ≤ oldest_id base.oldest (take q h)) (take_in p q h le) (oldest_by_places base (take q h) (legal_take base h q legal) p)

xmin_between : (base : Counters) (h : List Event) (p q : ℕ) → IsLegal base h → IsBase base → p ≤ q → oldest_xmin base.next (take p h) ≤ oldest_xmin base.next (take q h)
xmin_between base h p q legal is le =
    subst (λ t. oldest_xmin base.next t ≤ oldest_xmin base.next (take q h)) (take_in p q h le) (xmin_by_places base (take q h) (legal_take base h q legal) is p)

pub posts_go_on : PostsGoOn
posts_go_on start lists k base = (
  later (oldest_id start.base.oldest) lists (oldest_word start) (λ p q le. oldest_between start.base (history lists) p q k.events.legal le)
      (λ j b n here. (k.posts.each.each (oldest_word start) j (record { by = b; kind = kinds.Post n }) here).oldest refl),
  later (oldest_xmin start.base.next) lists (xmin_word start) (λ p q le. xmin_between start.base (history lists) p q k.events.legal base le)
      (λ j b n here. (k.posts.each.each (xmin_word start) j (record { by = b; kind = kinds.Post n }) here).xmin refl),
)
