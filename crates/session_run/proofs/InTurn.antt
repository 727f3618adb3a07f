-- The members of a round one after another, on one thread.
use Rattle.std.proofs.Common.{◌≡◌, ℕ, zero, suc, ◌+◌, ◌<◌, ◌≤◌, false, List, [], ◌∷◌, ◌++◌, refl, sym, ap, subst, ◌∙◌, arith, drop, get_or, length, length-append, length-set, map, set, take}
use Rattle.std.proofs.lemmas.List.{map-append, take_all, take_more, take_more_set}
use Rattle.std.proofs.lemmas.List.Elements.{All-push}
use Rattle.std.specs.List.{All}
use Rattle.disk_core.specs.declared.log_disk.LogDisk as logs
use Rattle.disk_core.specs.declared.page_disk.PageDisk as disks
use Rattle.hall.specs.declared.hall.Hall.{Hall}
use Rattle.session_lang.specs.declared.script.Item.{Item}
use Rattle.script_rounds.specs.declared.keeper.LineKeeper as keepers
use Rattle.script_rounds.specs.declared.plan.Plan.{Plan}
use Rattle.tx_core.specs.declared.entry.Entry.{Entry}
use Rattle.tx_core.specs.declared.entry.Start.{Start}
use Rattle.engine_parts.specs.declared.part.Part.{Part}
use Rattle.session_run.specs.declared.member.Member.{Member}
use Rattle.session_run.specs.Turns.{MayGo, RunsRound, keeping}
use Rattle.session_run.specs.Rounds.{AllRan, HaveRun, callers_of, with_members}
use Rattle.session_run.proofs.Joining.{here_same, rest_same}
use Rattle.session_run.proofs.Rounding.{members_push}
use Rattle.session_run.proofs.TurnLemmas.{Keeps}

-- where something else is kept of the member's lines, it may go as well
pub go_keeping : {H K L P : Type 0} {l : logs.Ghosts L} {p : disks.Ghosts P} (hall : Hall H (Part L P l p) Entry Start) (banks : ℕ) (round : List Item) (plan : Plan) (m : Member K L P l p) (kept : K)
    → MayGo hall banks round plan m → MayGo hall banks round plan (keeping m kept)
go_keeping hall banks round plan m kept may = record {
  planned = may.planned;
  places = may.places;
  begins = record { may = may.begins.may; room = may.begins.room; lines = may.begins.lines };
}

-- one more of which it holds
all_cons : {X : Type 0} (Q : X → Type 0) (x : X) (xs : List X) → Q x → All Q xs → All Q (x ∷ xs)
all_cons Q x xs one rest zero m low = one
all_cons Q x xs one rest (suc i) m low = rest i m (omega (arith, low))

-- so of the front, and of the last one
fronts : {X : Type 0} (Q : X → Type 0) (xs : List X) (y : X) → All Q (xs ++ y ∷ []) → All Q xs × Q y
fronts Q [] y all = (λ i m low. absurd (omega (arith, low)), all 0 y (omega arith))
fronts Q (x ∷ xs) y all =
    let rest = fronts Q xs y (λ i m low. all (suc i) m (omega (arith, low))) in
    (all_cons Q x xs (all 0 x (omega arith)) rest.0, rest.1)

module _ {K L P : Type 0} {l : logs.Ghosts L} {p : disks.Ghosts P} (keep : keepers.Ghosts K) (names : List (List ℕ)) where
  -- the member, as if its lines were kept apart
  abbrev pub apart : Member K L P l p → Member K L P l p
  apart m = keeping m (keep.with_lines names keep.nothing m.lines)

  apart_callers : (ms : List (Member K L P l p)) → callers_of ms ≡ callers_of (map apart ms)
  apart_callers [] = refl
  apart_callers (m ∷ ms) = ap (λ t. m.caller ∷ t) (apart_callers ms)

  apart_lost : (ms : List (Member K L P l p)) → All (λ (m : Member K L P l p). m.lost ≡ false) ms → All (λ (m : Member K L P l p). m.lost ≡ false) (map apart ms)
  apart_lost [] all = λ i m low. absurd (omega (arith, low))
  apart_lost (x ∷ ms) all = all_cons (λ (m : Member K L P l p). m.lost ≡ false) (apart x) (map apart ms) (all 0 x (omega arith)) (apart_lost ms (λ j n less. all (suc j) n (omega (arith, less))))

  -- members that keep nothing add nothing
  nothing_more : Keeps keep names → (kept : K) (ms : List (Member K L P l p)) → All (λ (m : Member K L P l p). m.kept ≡ keep.nothing) ms → with_members keep kept ms ≡ kept
  nothing_more laws kept [] none = refl
  nothing_more laws kept (m ∷ ms) none =
      let one : keep.joined kept m.kept ≡ kept =
      ap (keep.joined kept) (none 0 m (omega arith) ∙ sym (laws.none keep.nothing)) ∙ laws.join kept [] ∙ laws.none kept in
      ap (λ (z : K). with_members keep z ms) one ∙ nothing_more laws kept ms (λ i n low. none (suc i) n (omega (arith, low)))

module _ {H K L P : Type 0} {l : logs.Ghosts L} {p : disks.Ghosts P} (keep : keepers.Ghosts K) (hall : Hall H (Part L P l p) Entry Start)
    (banks : ℕ) (names : List (List ℕ)) (round : List Item) where
  abbrev Ran : Member K L P l p → Member K L P l p → Type 0
  Ran x y = RunsRound keep hall banks names round (y.lost ≡ false) x y

  abbrev Each : List (Member K L P l p) → List (Member K L P l p) → Type 0
  Each xs ys = (i : ℕ) (m : Member K L P l p) → i < length xs → Ran (get_or xs i m) (get_or ys i m)

  each_cons : (x y : Member K L P l p) (xs ys : List (Member K L P l p)) → Ran x y → Each xs ys → Each (x ∷ xs) (y ∷ ys)
  each_cons x y xs ys one all zero m low = one
  each_cons x y xs ys one all (suc i) m low = all i m (omega (arith, low))

  each_push : (xs ys : List (Member K L P l p)) → length ys ≡ length xs → Each xs ys → (x y : Member K L P l p) → Ran x y → Each (xs ++ x ∷ []) (ys ++ y ∷ [])
  each_push [] [] e all x y one = each_cons x y [] [] one (λ i m low. absurd (omega (arith, low)))
  each_push [] (v ∷ ys) e all x y one = absurd (omega (arith, e))
  each_push (u ∷ xs) [] e all x y one = absurd (omega (arith, e))
  each_push (u ∷ xs) (v ∷ ys) e all x y one =
      each_cons u v (xs ++ x ∷ []) (ys ++ y ∷ []) (all 0 u (omega arith))
      (each_push xs ys (omega (arith, e)) (λ i m low. all (suc i) m (omega (arith, low))) x y one)

  -- one member more
  ran_push : (xs ys : List (Member K L P l p)) (x y : Member K L P l p) → AllRan keep hall banks names round xs ys → Ran x y
      → AllRan keep hall banks names round (xs ++ x ∷ []) (ys ++ y ∷ [])
  ran_push xs ys x y all one = record {
    count = (let a = length-append xs (x ∷ []) in let b = length-append ys (y ∷ []) in let c = all.count in omega (arith, a, b, c));
    each = each_push xs ys all.count all.each x y one;
  }

  -- The first so many of the members ran, and what they told is kept.
  pub record AreInTurn (count : ℕ) (first : K) (old : List (Member K L P l p)) (kept : K) (now : List (Member K L P l p)) : Type 0 where
    pub all : AllRan keep hall banks names round (take count old) (map (apart keep names) (take count now))
    pub kept_is : All (λ (m : Member K L P l p). m.lost ≡ false) (take count now) → kept ≡ with_members keep first (map (apart keep names) (take count now))
    pub none : All (λ (m : Member K L P l p). m.kept ≡ keep.nothing) (take count now)
    pub rest : drop count now ≡ drop count old
    pub same : length now ≡ length old

  pub none_yet : (first : K) (ms : List (Member K L P l p)) → AreInTurn 0 first ms first ms
  none_yet first ms = record {
    all = record { count = refl; each = λ i m low. absurd (omega (arith, low)) };
    kept_is = λ so. refl;
    none = λ i m low. absurd (omega (arith, low));
    rest = refl;
    same = refl;
  }

  -- the next one ran
  pub turn_on : Keeps keep names → (count : ℕ) (first : K) (old : List (Member K L P l p)) (kept kept' : K) (now : List (Member K L P l p)) (d m : Member K L P l p)
      → count < length old → AreInTurn count first old kept now → (get_or old count d).kept ≡ keep.nothing → m.kept ≡ keep.nothing
      → Ran (keeping (get_or now count d) kept) (keeping m kept') → AreInTurn (count + 1) first old kept' (set now count m)
  turn_on laws count first old kept kept' now d m low so_far none mine_none ran =
      let x = get_or old count d in
      let here = here_same old now count d so_far.rest in
      let mine : Ran (keeping x kept) (keeping m kept') = subst (λ (z : Member K L P l p). Ran (keeping z kept) (keeping m kept')) here ran in
      let long : count < length now = (let e = so_far.same in omega (arith, e, low)) in
      let front = take count now in
      let done = map (apart keep names) front in
      let own = apart keep names m in
      let more : take (count + 1) old ≡ take count old ++ x ∷ [] = take_more old count d low in
      let set_more : take (count + 1) (set now count m) ≡ front ++ m ∷ [] = take_more_set now count m long in
      let put : map (apart keep names) (take (count + 1) (set now count m)) ≡ done ++ own ∷ [] = ap (map (apart keep names)) set_more ∙ map-append (apart keep names) front (m ∷ []) in
      let one : Ran x own = record {
        ran = mine.ran;
        may = mine.may;
        number = mine.number;
        all = mine.all;
        kept_is = λ so. ap (λ (z : K). keep.with_lines names z m.lines) (sym none);
      } in
      record {
        all = subst (λ (z : List (Member K L P l p) × List (Member K L P l p)). AllRan keep hall banks names round z.0 z.1) (λ j. (sym more j, sym put j)) (ran_push (take count old) done x own so_far.all one);
        kept_is = λ so.
            let both = fronts (λ (z : Member K L P l p). z.lost ≡ false) front m (subst (All (λ (z : Member K L P l p). z.lost ≡ false)) set_more so) in
            mine.kept_is both.1 ∙ ap (λ (z : K). keep.with_lines names z m.lines) (so_far.kept_is both.0)
            ∙ sym (laws.join (with_members keep first done) m.lines) ∙ sym (members_push keep first done own)
            ∙ ap (with_members keep first) (sym put);
        none = subst (All (λ (z : Member K L P l p). z.kept ≡ keep.nothing)) (sym set_more) (All-push (λ (z : Member K L P l p). z.kept ≡ keep.nothing) front m so_far.none mine_none);
        rest = rest_same old now count m so_far.rest;
        same = length-set now count m ∙ so_far.same;
      }

  -- all of them ran
  pub turns_done : Keeps keep names → (count : ℕ) (first : K) (old : List (Member K L P l p)) (kept : K) (now : List (Member K L P l p))
      → length old ≤ count → AreInTurn count first old kept now → HaveRun keep hall banks names round first kept old now
  turns_done laws count first old kept now past so_far =
      let done = map (apart keep names) now in
      let whole : take count now ≡ now = take_all count now (let e = so_far.same in omega (arith, past, e)) in
      let olds : take count old ≡ old = take_all count old past in
      record {
        ran = done;
        all = subst (λ (z : List (Member K L P l p) × List (Member K L P l p)). AllRan keep hall banks names round z.0 (map (apart keep names) z.1)) (λ j. (olds j, whole j)) so_far.all;
        callers = apart_callers keep names now;
        sufficed = apart_lost keep names now;
        kept_is = λ so.
            nothing_more keep names laws kept now (subst (All (λ (z : Member K L P l p). z.kept ≡ keep.nothing)) whole so_far.none)
            ∙ so_far.kept_is (subst (All (λ (z : Member K L P l p). z.lost ≡ false)) (sym whole) so)
            ∙ ap (λ (z : List (Member K L P l p)). with_members keep first (map (apart keep names) z)) whole;
      }

  -- on threads each kept its own
  pub kept_apart : (kept : K) (old new : List (Member K L P l p)) → AllRan keep hall banks names round old new → HaveRun keep hall banks names round kept kept old new
  kept_apart kept old new all = record { ran = new; all = all; callers = refl; sufficed = λ so. so; kept_is = λ so. refl }
