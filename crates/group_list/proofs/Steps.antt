-- Each step of a list keeps its rule.
use Rattle.std.proofs.Common.{◌≡◌, ℕ, zero, suc, ◌+◌, ◌<◌, ◌≤◌, ◌≢◌, ◌⊎◌, ◌==◌, if◌then◌else◌, List, [], ◌∷◌, get_or, set, Contains, refl, sym, ◌∙◌, ap, subst, inl, inr, ⊎_elim, arith}
use mathlib.Core.Option.{none}
use mathlib.Core.Logic.{dite}
use native.Mathlib.Decide.{ℕ_discrete}
use lib.Seq.{set-get_or}
use Rattle.atomic_table.specs.Table.{State, Me, step, keeps, Allows}
use Rattle.group_list.specs.declared.view.Event.{Event}
use Rattle.group_list.specs.declared.view.Event.TheVariants.{Published, Linked, Drained, Unlinked, HandedBack, Observed}
use Rattle.group_list.specs.declared.view.Stage.{Stage}
use Rattle.group_list.specs.declared.view.Stage.TheVariants.{Free, Entering, Joined, Leading}
use Rattle.group_list.specs.declared.view.View.{View}
use Rattle.group_list.specs.Log.{head_of, rest_of, oldest_of, waiting, due, Phase, idle, published_over, linked_over, taken_by, handed_back_by, link, phase, May, Legal, next_of, answer_of, HasLinked}
use Rattle.group_list.specs.Rule.{Holds, Stands, Knows, Kept}
use Rattle.group_list.specs.Told.{stage_of, after_publish, after_link, after_drain, after_unlink, after_hand_back, after_observe, after_look, Moment, PublishStep, LinkStep, DrainStep, UnlinkStep, HandBackStep, ObserveStep}
use Rattle.group_list.proofs.Places.{back_place}
use Rattle.group_list.proofs.Cases.{if_case, if_else, if_same}
use Rattle.group_list.proofs.Numbers.{In, contains_last, without_contains}
use Rattle.group_list.proofs.Moves.{tail_more, stands_step, says_set, moved, stays}
use Rattle.group_list.proofs.Chains.{mover, FoundNext, IsChain, clash, idle_other, due_other, owed_other, in_chain, sound}

abbrev S' : Type 0
S' = State Unit View

abbrev M : Type 0
M = Me Unit View

abbrev kind : Event → ℕ
kind (Published i) = 0
kind (Linked i) = 1
kind (Drained l) = 2
kind (Unlinked l j) = 3
kind (HandedBack l j) = 4
kind (Observed i) = 5

-- the numbers that the mover may still give
own_spare : (m : ℕ) (log : List Event) (e : Event) (d : View) → May m log e → mover e ≡ d.number → Knows m log d → (k : ℕ) → Holds d k → k ≢ d.number → (k < m) × (phase (e ∷ log) k ≡ idle) × (due (e ∷ log) k ≡ [])
own_spare m log e d h by knows k held other = let s = knows.spare k held other in let apart : k ≢ mover e = λ q. other (q ∙ by) in (s.0, idle_other m log e k h apart s.1, due_other log e k apart ∙ s.2)

own_owed : (m : ℕ) (log : List Event) (e : Event) (d : View) → May m log e → kind e ≢ 4 → Knows m log d → (j : ℕ) → Contains d.owes j → phase (e ∷ log) j ≡ taken_by d.number
own_owed m log e d h ne knows j t = owed_other m log e d.number j h (λ q. ne (ap kind q)) (knows.owed j t)

moment : (m : ℕ) (log : List Event) (d : View) → Legal m log → Knows m log d → Moment d log
moment m log d l k = record { legal = subst (λ (z : ℕ). Legal z log) (sym k.many) l; ends = k.ends }

-- a move that leaves a word of each member but t as it was
word_same : (f : Phase → ℕ) (log : List Event) (t i : ℕ) (p q : Phase) → phase log t ≡ q → f p ≡ f q → f (if t == i then p else phase log i) ≡ f (phase log i)
word_same f log t i p q is same = if_case (λ (z : Phase). f z ≡ f (phase log i)) t i p (phase log i) (λ e. same ∙ sym (ap f (subst (λ (z : ℕ). phase log z ≡ q) e is))) (λ _. refl)

first_oldest : (n : ℕ) (ws : List ℕ) → head_of ws ≡ 0 → oldest_of (n ∷ ws) ≡ n + 1
first_oldest n [] z = refl
first_oldest n (x ∷ xs) z = absurd (omega arith)

pub head_below : (m : ℕ) (log : List Event) (p : ℕ) (xs : List ℕ) → IsChain m log p xs → head_of xs ≤ m
head_below m log p [] c = omega arith
head_below m log p (x ∷ xs) c = let lt = c.0 in omega arith

pub publishes_one : (mem slots me new : ℕ) (m : M) → m.0.stage ≡ Free → Holds m.0 m.0.number → new ≡ m.0.number + 1 → Allows (Kept mem) slots me m 0 (λ _. new) (PublishStep (step slots 0 new 0 none) m)
publishes_one mem slots me new m free live new_is s r deep is small =
    let v : View = m.0 in let n : ℕ = v.number in let log : List Event = r.log in let k = r.knows me v is live in let e : Event = Published n in
    let nothing : phase log n ≡ idle = subst (Stands log n) free k.stands in
    let may : May mem log e = (k.below, nothing) in
    let c = head_below mem log 0 (waiting log) (sound mem log r.legal 0) in let found = r.says.head in let many = k.many in (
      after_publish log v,
      keeps,
      tt,
      moved mem s r me v (after_publish log v) is live refl e (set s.words 0 new) s.homes refl may
          (says_set mem log e s.words 0 new r.says (inl (refl, new_is))
          (λ i lt. inr ((λ q. omega arith), word_same next_of log n i (published_over (head_of (waiting log))) idle nothing refl))
          (λ i lt. inr ((λ q. omega arith), word_same answer_of log n i (published_over (head_of (waiting log))) idle nothing refl)))
          record {
            many = k.many;
            below = k.below;
            stands = (if_same n (published_over (head_of (waiting log))) (phase log n), first_oldest n (waiting log));
            due_is = k.due_is;
            owed = own_owed mem log e v may (λ q. omega arith) k;
            ends = ([], refl);
            spare = own_spare mem log e v may refl k;
          },
      record { log = log; moment = moment mem log v r.legal k; found = found; small = omega arith; view_is = refl; slots = refl },
    )

phase_linked : (log : List Event) (n f : ℕ) → phase log n ≡ published_over f → phase (Linked n ∷ log) n ≡ linked_over f
phase_linked log n f is = if_same n (link (phase log n)) (phase log n) ∙ ap link is

stands_linked : (log : List Event) (n f : ℕ) → phase (Linked n ∷ log) n ≡ linked_over f → (f ≡ 0 → oldest_of (waiting log) ≡ n + 1) → Stands (Linked n ∷ log) n (stage_of f)
stands_linked log n zero is leads = (subst HasLinked (sym is) tt, leads refl)
stands_linked log n (suc f) is leads = subst HasLinked (sym is) tt

pub links_one : (mem slots me i new f : ℕ) (m : M) → m.0.stage ≡ Entering f → Holds m.0 m.0.number → i ≡ 1 + m.0.number → new ≡ f + 1 → Allows (Kept mem) slots me m i (λ _. new) (LinkStep (step slots i new 0 none) m)
links_one mem slots me i new f m stage live at_i new_is s r deep is small =
    let v : View = m.0 in let n : ℕ = v.number in let log : List Event = r.log in let k = r.knows me v is live in let e : Event = Linked n in
    let stood : (phase log n ≡ published_over f) × (f ≡ 0 → oldest_of (waiting log) ≡ n + 1) = subst (Stands log n) stage k.stands in
    let may : May mem log e = (f, stood.0) in let below = k.below in
    let now : phase (e ∷ log) n ≡ linked_over f = phase_linked log n f stood.0 in (
      after_link f log v,
      keeps,
      tt,
      moved mem s r me v (after_link f log v) is live refl e (set s.words i new) s.homes refl may
          (says_set mem log e s.words i new r.says (inr ((λ q. omega arith), refl))
          (λ j lt. dite (ℕ_discrete n j)
          (λ (q : n ≡ j). inl (at_i ∙ ap (λ z. 1 + z) q, new_is ∙ sym (ap next_of (subst (λ (z : ℕ). phase (e ∷ log) z ≡ linked_over f) q now))))
          (λ ne. inr ((λ q. ne (omega arith)), ap next_of (if_else n j (link (phase log j)) (phase log j) ne))))
          (λ j lt. inr (
            (λ q. omega arith),
            dite (ℕ_discrete n j)
                (λ (q : n ≡ j). ap answer_of (subst (λ (z : ℕ). phase (e ∷ log) z ≡ linked_over f) q now) ∙ sym (ap answer_of (subst (λ (z : ℕ). phase log z ≡ published_over f) q stood.0)))
                (λ ne. ap answer_of (if_else n j (link (phase log j)) (phase log j) ne)),
          )))
          record {
            many = k.many;
            below = k.below;
            stands = stands_linked log n f now stood.1;
            due_is = k.due_is;
            owed = own_owed mem log e v may (λ q. omega arith) k;
            ends = ([], refl);
            spare = own_spare mem log e v may refl k;
          },
      (λ g other. let same : g ≡ f = ap (λ (z : Stage). elim z [ Free ↦ 0 | Entering x ↦ x | Joined ↦ 0 | Leading ↦ 0 ]) (sym other ∙ stage) in
          record { log = log; moment = moment mem log v r.legal k; view_is = ap (λ (z : ℕ). after_link z log v) (sym same); slots = refl }),
    )

pub drains_one : (mem slots me new : ℕ) (m : M) → m.0.stage ≡ Leading → m.0.due ≡ [] → Holds m.0 m.0.number → new ≡ 0 → Allows (Kept mem) slots me m 0 (λ _. new) (DrainStep (step slots 0 new 0 none) m)
drains_one mem slots me new m stage free live new_is s r deep is small =
    let v : View = m.0 in let n : ℕ = v.number in let log : List Event = r.log in let k = r.knows me v is live in let e : Event = Drained n in
    let stood : HasLinked (phase log n) × (oldest_of (waiting log) ≡ n + 1) = subst (Stands log n) stage k.stands in
    let may : May mem log e = (stood.1, k.due_is ∙ free) in (
      after_drain log v,
      keeps,
      tt,
      moved mem s r me v (after_drain log v) is live refl e (set s.words 0 new) s.homes refl may
          (says_set mem log e s.words 0 new r.says (inl (refl, new_is)) (λ i lt. inr ((λ q. omega arith), refl)) (λ i lt. inr ((λ q. omega arith), refl)))
          record {
            many = k.many;
            below = k.below;
            stands = stood.0;
            due_is = if_same n (waiting log) (due log n);
            owed = own_owed mem log e v may (λ q. omega arith) k;
            ends = ([], refl);
            spare = own_spare mem log e v may refl k;
          },
      record { log = log; moment = moment mem log v r.legal k; found = r.says.head; first = stood.1; view_is = refl; slots = refl },
    )

next_linked : (p : Phase) → next_of p ≢ 0 → (f : ℕ) × (p ≡ linked_over f)
next_linked idle ne = absurd (ne refl)
next_linked (published_over f) ne = absurd (ne refl)
next_linked (linked_over f) ne = (f, refl)
next_linked (taken_by l) ne = absurd (ne refl)
next_linked (handed_back_by l) ne = absurd (ne refl)

answer_back : (p : Phase) → answer_of p ≢ 0 → (l : ℕ) × (p ≡ handed_back_by l)
answer_back idle ne = absurd (ne refl)
answer_back (published_over f) ne = absurd (ne refl)
answer_back (linked_over f) ne = absurd (ne refl)
answer_back (taken_by l) ne = absurd (ne refl)
answer_back (handed_back_by l) ne = (l, refl)

words_same : (s : S') (i x new : ℕ) → get_or s.words i 0 ≡ x → new ≡ x → set s.words i new ≡ s.words
words_same s i x new is same = ap (set s.words i) (same ∙ sym is) ∙ set-get_or s.words i 0

pub unlinks_one : (mem slots me i new j : ℕ) (rest : List ℕ) (m : M) → m.0.due ≡ j ∷ rest → Holds m.0 m.0.number → i ≡ 1 + j → new ≡ 0 → Allows (Kept mem) slots me m i (λ _. new) (UnlinkStep (step slots i new 0 none) m)
unlinks_one mem slots me i new j rest m owed live at_i new_is s r deep is small =
    let v : View = m.0 in let n : ℕ = v.number in let log : List Event = r.log in let k = r.knows me v is live in let e : Event = Unlinked n j in
    let x : ℕ = get_or s.words i 0 in
    let at : due log n ≡ j ∷ rest = k.due_is ∙ owed in
    let c : IsChain mem log (suc n) (j ∷ rest) = subst (IsChain mem log (suc n)) at (sound mem log r.legal (suc n)) in
    let reads : x ≡ next_of (phase log j) = ap (λ (z : ℕ). get_or s.words z 0) at_i ∙ r.says.nexts j c.0 in
    let same_parts : (j' : ℕ) (rest' : List ℕ) → m.0.due ≡ j' ∷ rest' → (j ≡ j') × (rest ≡ rest') = λ j' rest' q. (ap (λ (z : List ℕ). get_or z 0 0) (sym owed ∙ q), ap rest_of (sym owed ∙ q)) in
    dite (ℕ_discrete x 0)
    (λ (z : x ≡ 0). (
      v,
      keeps,
      tt,
      subst (λ (ws : List ℕ). Kept mem record { words = ws; homes = s.homes; views = set s.views me v }) (sym (words_same s i 0 new z new_is)) (stays mem s r me v v is live refl s.homes k),
      (λ j' rest' q at'. (inl (z, refl), refl)),
    ))
    (λ ne.
    let f = next_linked (phase log j) (λ q. ne (reads ∙ q)) in
    let may : May mem log e = (f.0, rest, f.1, at) in
    let found : f.0 ≡ head_of rest = subst (λ (z : Phase). FoundNext z (head_of rest)) f.1 c.2 in
    let now : phase (e ∷ log) j ≡ taken_by n = if_same j (taken_by n) (phase log j) in (
      after_unlink j rest v,
      keeps,
      tt,
      moved mem s r me v (after_unlink j rest v) is live refl e (set s.words i new) s.homes refl may
          (says_set mem log e s.words i new r.says (inr ((λ q. omega arith), refl))
          (λ a lt. dite (ℕ_discrete j a)
          (λ (q : j ≡ a). inl (at_i ∙ ap (λ z. 1 + z) q, new_is ∙ sym (ap next_of (subst (λ (z : ℕ). phase (e ∷ log) z ≡ taken_by n) q now))))
          (λ other. inr ((λ q. other (omega arith)), ap next_of (if_else j a (taken_by n) (phase log a) other))))
          (λ a lt. inr ((λ q. let b = c.0 in omega arith), word_same answer_of log j a (taken_by n) (linked_over f.0) f.1 refl)))
          record {
            many = k.many;
            below = k.below;
            stands = stands_step log (e ∷ log) n
                (if_case (λ z. (z ≡ phase log n) ⊎ (HasLinked (phase log n) × HasLinked z)) j n (taken_by n) (phase log n) (λ q. inr (subst HasLinked (sym (subst (λ (z : ℕ). phase log z ≡ linked_over f.0) q f.1)) tt, tt)) (λ _. inl refl))
                (λ b. b) v.stage k.stands;
            due_is = if_same n (rest_of (due log n)) (due log n) ∙ ap rest_of at;
            owed = λ a t. ⊎_elim (λ u. own_owed mem log e v may (λ q. omega arith) k a u) (λ (q : a ≡ j). subst (λ (z : ℕ). phase (e ∷ log) z ≡ taken_by n) (sym q) now) (contains_last v.owes a j t);
            ends = tail_more v.seen log e k.ends;
            spare = own_spare mem log e v may refl k;
          },
      (λ j' rest' q at'. let p = same_parts j' rest' q in
          (inr (reads ∙ (ap next_of f.1 ∙ (ap (λ z. z + 1) found ∙ ap (λ (z : List ℕ). head_of z + 1) p.1)), λ t. after_unlink (p.0 t) (p.1 t) v), refl)),
    ))

pub returns_one : (mem slots me i new j : ℕ) (m : M) → Contains m.0.owes j → Holds m.0 m.0.number → m.0.members ≡ mem → i ≡ 1 + mem + j → new ≡ 1 → Allows (Kept mem) slots me m i (λ _. new) (HandBackStep (step slots i new 0 none) m)
returns_one mem slots me i new j m owes live many at_i new_is s r deep is small =
    let v : View = m.0 in let n : ℕ = v.number in let log : List Event = r.log in let k = r.knows me v is live in let e : Event = HandedBack n j in
    let taken : phase log j ≡ taken_by n = k.owed j owes in
    let may : May mem log e = taken in
    let now : phase (e ∷ log) j ≡ handed_back_by n = if_same j (handed_back_by n) (phase log j) in (
      after_hand_back j log v,
      keeps,
      tt,
      moved mem s r me v (after_hand_back j log v) is live refl e (set s.words i new) s.homes refl may
          (says_set mem log e s.words i new r.says (inr ((λ q. omega arith), refl))
          (λ a lt. inr ((λ q. omega arith), word_same next_of log j a (handed_back_by n) (taken_by n) taken refl))
          (λ a lt. dite (ℕ_discrete j a)
          (λ (q : j ≡ a). inl (at_i ∙ ap (λ z. 1 + mem + z) q, new_is ∙ sym (ap answer_of (subst (λ (z : ℕ). phase (e ∷ log) z ≡ handed_back_by n) q now))))
          (λ other. inr ((λ q. other (omega arith)), ap answer_of (if_else j a (handed_back_by n) (phase log a) other)))))
          record {
            many = k.many;
            below = k.below;
            stands = stands_step log (e ∷ log) n
                (if_case (λ z. (z ≡ phase log n) ⊎ (HasLinked (phase log n) × HasLinked z)) j n (handed_back_by n) (phase log n) (λ q. inr (subst HasLinked (sym (subst (λ (z : ℕ). phase log z ≡ taken_by n) q taken)) tt, tt)) (λ _. inl refl))
                (λ b. b) v.stage k.stands;
            due_is = k.due_is;
            owed = λ a t. let w = without_contains v.owes a j t in if_else j a (handed_back_by n) (phase log a) (λ q. w.1 (sym q)) ∙ k.owed a w.0;
            ends = ([], refl);
            spare = own_spare mem log e v may refl k;
          },
      (λ j' at'. let same : j ≡ j' = omega arith in (record { log = log; moment = moment mem log v r.legal k; owed = subst (λ (z : ℕ). phase log z ≡ taken_by n) same taken; view_is = ap (λ (z : ℕ). after_hand_back z log v) same }, refl)),
    )

pub oldest_in : (n : ℕ) (ws : List ℕ) → oldest_of ws ≡ n + 1 → In n ws
oldest_in n [] e = absurd (omega arith)
oldest_in n (x ∷ []) e = inl (omega arith)
oldest_in n (x ∷ y ∷ ws) e = inr (oldest_in n (y ∷ ws) e)

-- who was handed back had joined, and drained where it led
back_joined : (m : ℕ) (log : List Event) (n l : ℕ) (st : Stage) → Legal m log → phase log n ≡ handed_back_by l → Stands log n st → st ≡ Joined
back_joined m log n l Free legal is s = absurd (clash (phase log n) (handed_back_by l) idle is s (λ q. omega arith))
back_joined m log n l (Entering f) legal is s = absurd (clash (phase log n) (handed_back_by l) (published_over f) is s.0 (λ q. omega arith))
back_joined m log n l Joined legal is s = refl
back_joined m log n l Leading legal is s = let t = (in_chain m log 0 n (waiting log) (sound m log legal 0) (oldest_in n (waiting log) s.1)).2 in absurd (subst (λ (z : Phase). FoundNext z t.0) is t.1)

pub observes_one : (mem slots me i new : ℕ) (m : M) → Holds m.0 m.0.number → i ≡ 1 + mem + m.0.number → new ≡ 0 → Allows (Kept mem) slots me m i (λ _. new) (ObserveStep (step slots i new 0 none) m)
observes_one mem slots me i new m live at_i new_is s r deep is small =
    let v : View = m.0 in let n : ℕ = v.number in let log : List Event = r.log in let k = r.knows me v is live in let e : Event = Observed n in
    let x : ℕ = get_or s.words i 0 in let below = k.below in
    let reads : x ≡ answer_of (phase log n) = ap (λ (z : ℕ). get_or s.words z 0) at_i ∙ r.says.answers n k.below in
    dite (ℕ_discrete x 0)
    (λ (z : x ≡ 0). (
      after_look v,
      keeps,
      tt,
      subst (λ (ws : List ℕ). Kept mem record { words = ws; homes = s.homes; views = set s.views me (after_look v) }) (sym (words_same s i 0 new z new_is))
          (stays mem s r me v (after_look v) is live refl s.homes record { many = k.many; below = k.below; stands = k.stands; due_is = k.due_is; owed = k.owed; ends = k.ends; spare = k.spare }),
      (inl (z, record { log = log; moment = moment mem log v r.legal k; not_back = λ l b. let q : answer_of (phase log n) ≡ 1 = ap answer_of b in omega arith; view_is = refl }), refl),
    ))
    (λ ne.
    let l = answer_back (phase log n) (λ q. ne (reads ∙ q)) in
    let may : May mem log e = l in (
      after_observe log v,
      keeps,
      tt,
      moved mem s r me v (after_observe log v) is live refl e (set s.words i new) s.homes refl may
          (says_set mem log e s.words i new r.says (inr ((λ q. omega arith), refl))
          (λ a lt. inr ((λ q. omega arith), word_same next_of log n a idle (handed_back_by l.0) l.1 refl))
          (λ a lt. dite (ℕ_discrete n a)
          (λ (q : n ≡ a). inl (at_i ∙ ap (λ z. 1 + mem + z) q, new_is ∙ sym (ap answer_of (subst (λ (z : ℕ). phase (e ∷ log) z ≡ idle) q (if_same n idle (phase log n))))))
          (λ other. inr ((λ q. other (omega arith)), ap answer_of (if_else n a idle (phase log a) other)))))
          record {
            many = k.many;
            below = k.below;
            stands = if_same n idle (phase log n);
            due_is = k.due_is;
            owed = own_owed mem log e v may (λ q. omega arith) k;
            ends = ([], refl);
            spare = own_spare mem log e v may refl k;
          },
      (inr (reads ∙ ap answer_of l.1, record { log = log; leader = l.0; moment = moment mem log v r.legal k; back = l.1; its_leader = back_place mem log l.0 n r.legal l.1; had_joined = back_joined mem log n l.0 v.stage r.legal l.1 k.stands; view_is = refl }), refl),
    ))
