-- Steps that change no history: looks at locks, and loads of published words.
use Rattle.std.proofs.Common.{◌≡◌, ℕ, ◌+◌, ◌<◌, ◌⊎◌, ◌≢◌, false, List, [], ◌∷◌, length, get_or, set, refl, sym, ◌∙◌, ap, subst, inl, inr, ⊎_elim, eqb, get_or-set_same, get_or-set_other, length-set, arith}
use mathlib.Core.Option.{some, none, some-injective}
use mathlib.Core.Option as maybe
use mathlib.Core.Logic.{dite}
use native.Mathlib.Decide.{ℕ_discrete}
use lib.ListN.{get_elem?}
use lib.Seq.{set-get_or}
use prog.Atomic.{either}
use Rattle.atomic_table.specs.Table.{State, Me, step, keeps, takes, stepped, Allows}
use Rattle.atomic_table.proofs.Lists.{set_here, set_else, exchanged}
use Rattle.hall.specs.Layout.{line_of}
use Rattle.notes.specs.Lists.{at, Grows}
use Rattle.hall.specs.Lists.{OwnSeen, Whole}
use Rattle.hall.specs.declared.writer.Writer.{Writer}
use Rattle.hall.specs.declared.writer.Writer.TheVariants.{Session, Lock}
use Rattle.hall.specs.declared.view.Stage.{Stage}
use Rattle.hall.specs.declared.view.Stage.TheVariants.{Free, Inside}
use Rattle.hall.specs.declared.view.View.{View}
use Rattle.hall.specs.declared.view.Merged.{Merged}
use Rattle.hall.specs.declared.view.Held.{Held}
use Rattle.hall.specs.Rule.{Holds, IsIn, Stands, AtHome, Out, Writes, Told, Kept}
use Rattle.hall.specs.Told.{Moment, missed, entered, learned, settled, looked, reads, checks, settles, Got}
use Rattle.notes.proofs.Growing.{begins_same}
use Rattle.hall.proofs.Pieces.{each_set, unique_set, no_other, inside}

-- one stage has one lock
pub stage_same : (c a : ℕ) → Inside c ≡ Inside a → c ≡ a
stage_same c a e = ap (λ (z : Stage). elim z [ Free ↦ 0 | Inside x ↦ x ]) e

pub free_not_in : (c : ℕ) → Free ≡ Inside c → ⊥
free_not_in c e = let P : Stage → Type 0 = λ z. elim z [ Free ↦ Unit {0} | Inside _ ↦ ⊥ ] in subst P e tt

-- one writer has one lock, or one session
pub lock_same : (a b : ℕ) → Lock a ≡ Lock b → a ≡ b
lock_same a b e = ap (λ (z : Writer). elim z [ Session _ ↦ 0 | Lock x ↦ x ]) e

pub session_same : (a b : ℕ) → Session a ≡ Session b → a ≡ b
session_same a b e = ap (λ (z : Writer). elim z [ Session x ↦ x | Lock _ ↦ 0 ]) e

pub session_not_lock : (a b : ℕ) → Session a ≡ Lock b → ⊥
session_not_lock a b e = let P : Writer → Type 0 = λ z. elim z [ Session _ ↦ Unit {0} | Lock _ ↦ ⊥ ] in subst P e tt

module _ {S V E : Type 0} (start : S) (passes places : ℕ) (session : E → ℕ) (writer : S → ℕ → Writer) (stands : S → ℕ → V → List E → Type 0) (number : S → ℕ → List E → ℕ) (kept : S → List (List E) → Type 0) where
  abbrev St : Type 0
  St = State (Held V E) (View S E)

  abbrev M : Type 0
  M = Me (Held V E) (View S E)

  abbrev Rule : St → Type 0
  Rule = Kept start passes places session writer stands number kept

  -- the state once the view of `me` is w, with other words and homes, where no list changed
  module _ (s : St) (r : Rule s) (me : ℕ) (v w : View S E) (is : get_elem? s.views me ≡ some v) where
    -- a view with the same names, which is inside no other lock, at a step that changes no lock's word but that of a lock which the view enters
    pub same_lists : (ws : List ℕ) (hs : List (maybe.Option (Held V E))) → length ws ≡ length s.words → length hs ≡ r.n
        → ((a : S) → w.start ≡ a ∷ [] → v.start ≡ a ∷ [])
        → ((c : ℕ) → c < r.n → ((get_or ws (line_of c) 0 ≡ 0) × AtHome start stands hs c (at r.lists c)) ⊎ ((get_or ws (line_of c) 0 ≡ 1) × Out (set s.views me w) c))
        → ((c : ℕ) → c < r.p → get_or ws (line_of (r.n + c)) 0 ≡ get_or s.words (line_of (r.n + c)) 0)
        → Stands (writer start) r.n ws r.lists w.seen w.stage
        → ((j : ℕ) (d : View S E) → j ≢ me → get_elem? s.views j ≡ some d → Stands (writer start) r.n ws r.lists d.seen d.stage)
        → ((k : ℕ) → IsIn w k → (j : ℕ) (d : View S E) → j ≢ me → get_elem? s.views j ≡ some d → IsIn d k → ⊥)
        → ((k : ℕ) → IsIn w k → Holds w w.name)
        → (Grows w.seen r.lists × ((m : ℕ) → Holds w m → OwnSeen session (writer start) m w.seen r.lists))
        → ((m : ℕ) → Holds w m → Holds v m)
        → ((c : ℕ) → c < r.n + r.p → (m : ℕ) → Holds v m → at v.seen c ≡ at r.lists c → Holds w m × (at w.seen c ≡ at r.lists c))
        → Told session (writer start) w.merged
        → Rule record { words = ws; homes = hs; views = set s.views me w }
    same_lists ws hs same long begun home posted mine others fresh owns seen names whole merged = record {
      n = r.n;
      p = r.p;
      total = r.total;
      locks = r.locks;
      posted = λ c lt. posted c lt ∙ r.posted c lt;
      lists = r.lists;
      many = r.many;
      deep = long;
      wide = same ∙ r.wide;
      law = r.law;
      starts = λ j d a at e. each_set (λ _ z. (b : S) → z.start ≡ b ∷ [] → b ≡ start) s.views me w (λ b q. r.starts me v b is (begun b q)) (λ i z _ o b q. r.starts i z b o q) j d at a e;
      home = home;
      stages = each_set (λ _ z. Stands (writer start) r.n ws r.lists z.seen z.stage) s.views me w mine others;
      apart = unique_set IsIn s.views me w r.apart fresh;
      knows = each_set (λ _ z. Grows z.seen r.lists × ((m : ℕ) → Holds z m → OwnSeen session (writer start) m z.seen r.lists)) s.views me w seen (λ j d _ o. r.knows j d o);
      alone = unique_set Holds s.views me w r.alone (no_other Holds s.views me v w is r.alone names);
      told = each_set (λ _ z. Told session (writer start) z.merged) s.views me w merged (λ j d _ o. r.told j d o);
      named = λ j d m at hm. each_set (λ _ z. Holds z m → m < passes) s.views me w (λ k. r.named me v m is (names m k)) (λ i z _ o k. r.named i z m o k) j d at hm;
      owner = λ j d c at has. each_set (λ _ z. IsIn z c → Holds z z.name) s.views me w (λ k. owns c k) (λ i z _ o k. r.owner i z c o k) j d at has;
      whole = λ c lt. let o = r.whole c lt in dite (ℕ_discrete o.0 me)
          (λ (q : o.0 ≡ me). let d_is : o.1 ≡ v = some-injective _ _ (sym o.3 ∙ (ap (get_elem? s.views) q ∙ is)) in
          let k = whole c lt o.2 (subst (λ (z : View S E). Holds z o.2) d_is o.4) (subst (λ (z : View S E). at z.seen c ≡ at r.lists c) d_is o.5) in
          (me, w, o.2, set_here s.views me w (inside s.views me v is), k.0, k.1))
          (λ other. (o.0, o.1, o.2, set_else s.views me o.0 w other ∙ o.3, o.4, o.5));
    }

    -- who was out stays so, where the pass is not the one or stays
    pub out_stays : (c : ℕ) → (IsIn v c → IsIn w c) → Out s.views c → Out (set s.views me w) c
    out_stays c stay o = dite (ℕ_discrete o.0 me)
        (λ (q : o.0 ≡ me). let d_is : o.1 ≡ v = some-injective _ _ (sym o.2 ∙ (ap (get_elem? s.views) q ∙ is)) in
        (me, w, set_here s.views me w (inside s.views me v is), stay (ap (λ (z : View S E). z.stage) (sym d_is) ∙ o.3)))
        (λ other. (o.0, o.1, set_else s.views me o.0 w other ∙ o.2, o.3))

    pub home_stays : ((c : ℕ) → IsIn v c → IsIn w c) → (c : ℕ) → c < r.n
        → ((get_or s.words (line_of c) 0 ≡ 0) × AtHome start stands s.homes c (at r.lists c)) ⊎ ((get_or s.words (line_of c) 0 ≡ 1) × Out (set s.views me w) c)
    home_stays stay c lt = ⊎_elim (λ h. inl h) (λ o. inr (o.0, out_stays c (stay c) o.1)) (r.home c lt)

    -- a view with the same names and the same stage, at a step that changes no word
    pub same_words : ((a : S) → w.start ≡ a ∷ [] → v.start ≡ a ∷ [])
        → w.stage ≡ v.stage
        → Stands (writer start) r.n s.words r.lists w.seen w.stage
        → (Grows w.seen r.lists × ((m : ℕ) → Holds w m → OwnSeen session (writer start) m w.seen r.lists))
        → w.holds ≡ v.holds
        → w.name ≡ v.name
        → ((c : ℕ) → at v.seen c ≡ at r.lists c → at w.seen c ≡ at r.lists c)
        → Told session (writer start) w.merged
        → Rule record { words = s.words; homes = s.homes; views = set s.views me w }
    same_words begun stays mine seen holds called whole merged =
        let names : (m : ℕ) → Holds w m → Holds v m = λ m h. ap (λ (z : List _). get_or z m false) (sym holds) ∙ h in
        let more : (m : ℕ) → Holds v m → Holds w m = λ m h. ap (λ (z : List _). get_or z m false) holds ∙ h in
        same_lists s.words s.homes refl r.deep begun (home_stays (λ c e. stays ∙ e)) (λ c lt. refl) mine (λ j d _ o. r.stages j d o)
        (no_other IsIn s.views me v w is r.apart (λ k h. sym stays ∙ h))
        (λ k h. more w.name (subst (Holds v) (sym called) (r.owner me v k is (sym stays ∙ h))))
        seen names (λ c lt m h e. (more m h, whole c e)) merged

  -- a load changes no word
  pub loaded : (s : St) (i me : ℕ) (cs : List (ℕ × Held V E)) (w : View S E) (hs : List (maybe.Option (Held V E)))
      → Rule record { words = s.words; homes = hs; views = set s.views me w } → Rule record { words = set s.words i (get_or s.words i 0); homes = hs; views = set s.views me w }
  loaded s i me cs w hs = subst (λ (ws : List ℕ). Rule record { words = ws; homes = hs; views = set s.views me w }) (sym (set-get_or s.words i 0))

  -- a look that finds the lock taken
  pub misses : (s : St) (r : Rule s) (i me : ℕ) (v : View S E) (cs : List (ℕ × Held V E)) → get_elem? s.views me ≡ some v → Rule (stepped s i (get_or s.words i 0) me cs (missed v) keeps)
  misses s r i me v cs is = loaded s i me cs (missed v) s.homes
      (same_words s r me v (missed v) is (λ a e. e) refl (r.stages me v is) (r.knows me v is) refl refl (λ c e. e) (r.told me v is))

  -- a look that finds the lock free
  module _ (s : St) (r : Rule s) (me c : ℕ) (v : View S E) (is : get_elem? s.views me ≡ some v) (free : v.stage ≡ Free) (mine : Holds v v.name) (cell : c < r.n) (now : get_or s.words (line_of c) 0 ≡ 0) where
    abbrev w : View S E
    w = entered c r.lists v

    abbrev wl : List ℕ
    wl = set s.words (line_of c) 1

    at_home : AtHome start stands s.homes c (at r.lists c)
    at_home = ⊎_elim (λ h. h.1) (λ o. absurd (let a = o.0 in omega arith)) (r.home c cell)

    taken_now : get_or wl (line_of c) 0 ≡ 1
    taken_now = let wide = r.wide in get_or-set_same s.words (line_of c) 1 0 (omega arith)

    word_else : (k : ℕ) → k ≢ c → get_or wl (line_of k) 0 ≡ get_or s.words (line_of k) 0
    word_else k ne = get_or-set_other s.words (line_of c) (line_of k) 1 0 (λ e. ne (omega arith))

    -- nobody was inside
    not_in : (j : ℕ) (d : View S E) → get_elem? s.views j ≡ some d → IsIn d c → ⊥
    not_in j d o h = let a = (subst (Stands (writer start) r.n s.words r.lists d.seen) h (r.stages j d o)).1 in omega arith

    still : (seen : List (List E)) (st : Stage) → (st ≡ Inside c → ⊥) → Stands (writer start) r.n s.words r.lists seen st → Stands (writer start) r.n wl r.lists seen st
    still seen Free out h = tt
    still seen (Inside a) out h = (h.0, word_else a (λ e. out (ap Inside e)) ∙ h.1, h.2)

    pub enters : (h : Held V E) → Rule record { words = wl; homes = set s.homes c none; views = set s.views me w }
    enters h = same_lists s r me v w is wl (set s.homes c none) (length-set s.words (line_of c) 1) (length-set s.homes c none ∙ r.deep) (λ a e. e)
        (λ k lt. dite (ℕ_discrete k c)
        (λ (e : k ≡ c). inr (ap (λ (z : ℕ). get_or wl (line_of z) 0) e ∙ taken_now, (me, w, set_here s.views me w (inside s.views me v is), ap Inside (sym e))))
        (λ ne. ⊎_elim (λ a. inl (word_else k ne ∙ a.0, (a.1.0, a.1.1, set_else s.homes c k none ne ∙ a.1.2, a.1.3, a.1.4)))
        (λ o. inr (word_else k ne ∙ o.0, out_stays s r me v w is k (λ q. absurd (free_not_in k (sym free ∙ q))) o.1)) (r.home k lt)))
        (λ k lt. get_or-set_other s.words (line_of c) (line_of (r.n + k)) 1 0 (λ e. omega arith))
        (cell, taken_now, record { whole = λ q e. refl })
        (λ j d _ o. still d.seen d.stage (not_in j d o) (r.stages j d o))
        (λ k e j d _ o h. not_in j d o (h ∙ sym e))
        (λ _ _. mine)
        (record { begins = λ k. begins_same (at r.lists k) }, (λ m hm. record { entries = λ k. refl; words = record { whole = λ q e. refl } }))
        (λ m hm. hm)
        (λ k lt m hm e. (hm, refl))
        (r.told me v is)

  -- what a pass that sees all histories learns
  moment_of : (s : St) (r : Rule s) (me : ℕ) (v : View S E) → get_elem? s.views me ≡ some v → length v.seen ≡ places → Moment session writer kept start v r.lists
  moment_of s r me v is wide = record {
    law = r.law;
    long = r.many ∙ (r.total ∙ sym wide);
    grows = (r.knows me v is).0;
    own_seen = (r.knows me v is).1;
    locked = λ c e. (subst (Stands (writer start) r.n s.words r.lists v.seen) e (r.stages me v is)).2;
  }

  -- the same at the start that the pass knows
  started_moment : (s : St) (r : Rule s) (me : ℕ) (v : View S E) (a : S) → get_elem? s.views me ≡ some v → length v.seen ≡ places → v.start ≡ a ∷ [] → Moment session writer kept a v r.lists
  started_moment s r me v a is wide started = subst (λ (z : S). Moment session writer kept z v r.lists) (sym (r.starts me v a is started)) (moment_of s r me v is wide)

  pub looks : (slots me i c : ℕ) (m : M) → length m.0.seen ≡ places → i ≡ line_of c → c < slots → m.0.stage ≡ Free → Holds m.0 m.0.name
      → Allows Rule slots me m i (λ n. either (eqb n 0) 1 n) (looked session writer stands kept (step slots i 0 1 none) m)
  looks slots me i c m wide at_i lt free mine s r deep is small =
      let cell : c < r.n = let d = r.deep in omega arith in
      dite (ℕ_discrete (get_or s.words i 0) 0)
      (λ (now : get_or s.words i 0 ≡ 0).
      let now' : get_or s.words (line_of c) 0 ≡ 0 = ap (λ (z : ℕ). get_or s.words z 0) (sym at_i) ∙ now in
      let home = at_home s r me c m.0 is free mine cell now' in (
        entered c r.lists m.0,
        takes c home.0,
        home.2,
        exchanged (get_or s.words i 0) 0 1 (λ z. Rule record { words = set s.words i z; homes = set s.homes c none; views = set s.views me (entered c r.lists m.0) })
            (λ _. subst (λ (z : ℕ). Rule record { words = set s.words z 1; homes = set s.homes c none; views = set s.views me (entered c r.lists m.0) }) (sym at_i) (enters s r me c m.0 is free mine cell now' home.0))
            (λ other. absurd (other now)),
        (λ c' a at_c started.
            let same : c ≡ c' = omega arith in
            let P : ℕ → Type 0 = λ z. (get_or s.words i 0 ≡ 0) × Got session writer stands kept a z m (entered c r.lists m.0, (c, home.0) ∷ m.1) in
            inl (subst P same (now, record { lists = r.lists; value = home.1; held = home.0; moment = started_moment s r me m.0 a is wide started; stood = subst (λ (z : S). stands z c home.1 (at r.lists c)) (sym (r.starts me m.0 a is started)) home.4; filled = home.3; view_is = refl; slots_are = refl }))),
      ))
      (λ other.
      let one : get_or s.words i 0 ≡ 1 = ap (λ (z : ℕ). get_or s.words z 0) at_i ∙ ⊎_elim (λ h. absurd (other (ap (λ (z : ℕ). get_or s.words z 0) at_i ∙ h.0))) (λ o. o.0) (r.home c cell) in (
        missed m.0,
        keeps,
        tt,
        exchanged (get_or s.words i 0) 0 1 (λ z. Rule record { words = set s.words i z; homes = s.homes; views = set s.views me (missed m.0) })
            (λ now. absurd (other now))
            (λ _. misses s r i me m.0 m.1 is),
        (λ c' a at_c started. inr (one, refl, refl)),
      ))

  -- who alone may write a history has seen it whole
  pub writes_whole : (s : St) (r : Rule s) (me : ℕ) (v : View S E) → get_elem? s.views me ≡ some v → (who : Writer) → Writes who v → Whole (writer start) who v.seen r.lists
  writes_whole s r me v is (Session m) h = ((r.knows me v is).1 m h).words
  writes_whole s r me v is (Lock c) h = (subst (Stands (writer start) r.n s.words r.lists v.seen) h (r.stages me v is)).2

  -- the published word w and its place
  pub word_shows : (s : St) (r : Rule s) (slots i w : ℕ) → length s.homes ≡ slots → i ≡ line_of (slots + w) → slots + w < places → number start (slots + w) (at r.lists (slots + w)) ≡ get_or s.words i 0
  word_shows s r slots i w deep at_i inside_p =
      let n_is : r.n ≡ slots = sym r.deep ∙ deep in let total = r.total in
      let here : i ≡ line_of (r.n + w) = omega arith in let place : slots + w ≡ r.n + w = omega arith in
      ap (λ (z : ℕ). number start z (at r.lists z)) place ∙ (sym (r.posted w (omega arith)) ∙ ap (λ (z : ℕ). get_or s.words z 0) (sym here))

  -- a pass stands as it did once it has seen all histories
  stands_whole : (n : ℕ) (words : List ℕ) (lists seen : List (List E)) (st : Stage) → Stands (writer start) n words lists seen st → Stands (writer start) n words lists lists st
  stands_whole n words lists seen Free h = tt
  stands_whole n words lists seen (Inside c) h = (h.0, h.1, record { whole = λ q e. refl })

  -- a load of a published word
  pub learns : (slots me i w : ℕ) (m : M) → length m.0.seen ≡ places → i ≡ line_of (slots + w) → slots + w < places → Allows Rule slots me m i (λ n. n) (reads session writer number kept (step slots i 0 0 none) m)
  learns slots me i w m wide at_i inside_p s r deep is small =
      let v : View S E = learned r.lists m.0 in (
        v,
        keeps,
        tt,
        loaded s i me m.1 v s.homes (same_words s r me m.0 v is (λ a e. e) refl (stands_whole r.n s.words r.lists m.0.seen m.0.stage (r.stages me m.0 is))
            (record { begins = λ k. begins_same (at r.lists k) }, (λ m hm. record { entries = λ k. refl; words = record { whole = λ q e. refl } })) refl refl (λ c e. refl) (r.told me m.0 is)),
        (λ q a at_q started. let here : slots + w ≡ q = omega arith in record {
          lists = r.lists;
          moment = started_moment s r me m.0 a is wide started;
          shown = subst (λ (z : S × ℕ). number z.0 z.1 (at r.lists z.1) ≡ get_or s.words i 0) (λ j. (sym (r.starts me m.0 a is started) j, here j)) (word_shows s r slots i w deep at_i inside_p);
          view_is = refl;
          slots_are = refl;
        }),
      )

  -- a load of a word that this pass alone publishes
  pub checks_one : (slots me i w : ℕ) (m : M) → i ≡ line_of (slots + w) → slots + w < places → Allows Rule slots me m i (λ n. n) (checks writer number (step slots i 0 0 none) m)
  checks_one slots me i w m at_i inside_p s r deep is small = (
    m.0,
    keeps,
    tt,
    loaded s i me m.1 m.0 s.homes (same_words s r me m.0 m.0 is (λ a e. e) refl (r.stages me m.0 is) (r.knows me m.0 is) refl refl (λ c e. e) (r.told me m.0 is)),
    (
      refl,
      (λ q a at_q started mine.
          let here : slots + w ≡ q = omega arith in
          let a_is : a ≡ start = r.starts me m.0 a is started in
          let whole : at m.0.seen q ≡ at r.lists q = (writes_whole s r me m.0 is (writer start q) (subst (λ (z : S). Writes (writer z q) m.0) a_is mine)).whole q refl in
          subst (λ (z : S). number z q (at m.0.seen q) ≡ get_or s.words i 0) (sym a_is) (ap (number start q) whole ∙ subst (λ (z : ℕ). number start z (at r.lists z) ≡ get_or s.words i 0) here (word_shows s r slots i w deep at_i inside_p))),
    ),
  )

  -- a load behind a join
  pub settles_one : (slots me i : ℕ) (m : M) → length m.0.seen ≡ places → Allows Rule slots me m i (λ n. n) (settles session writer kept (step slots i 0 0 none) m)
  settles_one slots me i m wide s r deep is small =
      let v : View S E = settled r.lists m.0 in (
        v,
        keeps,
        tt,
        loaded s i me m.1 v s.homes (same_words s r me m.0 v is (λ a e. e) refl (stands_whole r.n s.words r.lists m.0.seen m.0.stage (r.stages me m.0 is))
            (record { begins = λ k. begins_same (at r.lists k) }, (λ m hm. record { entries = λ k. refl; words = record { whole = λ q e. refl } })) refl refl (λ c e. refl) tt),
        (λ a x started merged. record {
          lists = r.lists;
          moment = started_moment s r me m.0 a is wide started;
          told = subst (λ (z : S × List (Merged E)). Told session (writer z.0) z.1) (λ j. (sym (r.starts me m.0 a is started) j, merged j)) (r.told me m.0 is);
          view_is = refl;
          slots_are = refl;
        }),
      )
