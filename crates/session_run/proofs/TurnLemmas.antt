-- Commands of a session, one after another.
use Rattle.std.proofs.Common.{◌≡◌, ℕ, suc, zero, ◌+◌, ◌<◌, ◌≤◌, List, [], ◌∷◌, ◌++◌, Result, Ok, Err, IsErr, IsOk, Option, None, Some, IfNone, IfSome, refl, sym, ap, subst, ◌∙◌, arith, append-nil, drop, get_or, length, map, take}
use Rattle.std.proofs.lemmas.Bool.{false≢true}
use Rattle.std.proofs.lemmas.List.{map-append}
use Rattle.std.specs.List.{slice_get}
use Rattle.disk_core.specs.declared.log_disk.LogDisk as logs
use Rattle.disk_core.specs.declared.page_disk.PageDisk as disks
use Rattle.hall.specs.declared.hall.Hall.{Hall}
use Rattle.tx_events.specs.declared.event.By.{By}
use Rattle.tx_model.specs.declared.command.Command.{Command}
use Rattle.tx_model.specs.declared.report.Line.{Line}
use Rattle.tx_model.specs.Lines.{turn_of}
use Rattle.session_lang.specs.declared.script.Item.{Item}
use Rattle.session_lang.specs.declared.script.Item.TheVariants as items
use Rattle.script_rounds.specs.declared.keeper.LineKeeper as keepers
use Rattle.script_rounds.specs.Plans.{turns_at}
use Rattle.script_rounds.proofs.PlanLemmas.{own_at, turns_at_on}
use Rattle.tx_core.specs.declared.entry.Entry.{Entry}
use Rattle.tx_core.specs.declared.entry.Start.{Start}
use Rattle.engine_parts.specs.declared.part.Part.{Part}
use Rattle.engine_parts.specs.declared.session.Caller.{Caller}
use Rattle.engine_parts.specs.Calls.{MayRun}
use Rattle.session_run.specs.declared.member.Member.{Member}
use Rattle.session_run.specs.Turns.{Begins, RanLine, RanLines, RunsNext, commands_of}

-- where memory was wanting nothing is promised
pub on_err : {T E : Type 0} (X : Type 0) (r : Result T E) → IsErr r → IsOk r → X
on_err X (Ok x) e k = absurd (false≢true e)
on_err X (Err x) e k = absurd (false≢true k)

pub in_some : {X : Type 0} (F : X → Type 0) (found : Option X) (x : X) → found ≡ Some x → IfSome found F → F x
in_some F found x e f = subst (λ o. IfSome o F) e f

pub in_none : {X F : Type 0} (found : Option X) → found ≡ None → IfNone found F → F
in_none {F = F} found e f = subst (λ o. IfNone o F) e f

module _ {H L P : Type 0} {l : logs.Ghosts L} {p : disks.Ghosts P} where
  -- one command more
  pub ran_on : (hall : Hall H (Part L P l p) Entry Start) (a b c : Caller L P l p) (lines : List Line) (line : Line)
      → RanLines hall a b lines → RanLine hall b c line → RanLines hall a c (lines ++ line ∷ [])
  ran_on hall a b c [] line same ran = (c, subst (λ (z : Caller L P l p). RanLine hall z c line) same ran, refl)
  ran_on hall a b c (x ∷ lines) line first ran = (first.0, first.1, ran_on hall first.0 b c lines line first.2 ran)

-- places that are taken one after another
none_is_next : (place : ℕ) (rest : List ℕ) → [] ≡ place ∷ rest → ⊥
none_is_next place rest e = let n : 0 ≡ length (place ∷ rest) = ap length e in omega (arith, n)

plus_one : (n : ℕ) → n + 1 ≡ suc n
plus_one n = omega arith

pub next_place : (places : List ℕ) (count place : ℕ) (rest : List ℕ) → drop count places ≡ place ∷ rest
    → (count < length places) × (get_or places count 0 ≡ place) × (drop (count + 1) places ≡ rest)
next_place [] zero place rest e = absurd (none_is_next place rest e)
next_place [] (suc n) place rest e = absurd (none_is_next place rest e)
next_place (p ∷ places) zero place rest e = (omega arith, ap (λ (l : List ℕ). get_or l 0 0) e, ap (drop 1) e)
next_place (p ∷ places) (suc n) place rest e =
    let more = next_place places n place rest e in
    (let l = more.0 in omega (arith, l), more.1, ap (λ k. drop k (p ∷ places)) (plus_one (suc n)) ∙ ap (λ k. drop k places) (sym (plus_one n)) ∙ more.2)

pub all_taken : (places : List ℕ) (count : ℕ) → drop count places ≡ [] → take count places ≡ places
all_taken [] zero e = refl
all_taken [] (suc n) e = refl
all_taken (p ∷ places) zero e = absurd (none_is_next p places (sym e))
all_taken (p ∷ places) (suc n) e = ap (λ (t : List ℕ). p ∷ t) (all_taken places n e)

-- what holds of each keeper
pub record Keeps {K : Type 0} (keep : keepers.Ghosts K) (names : List (List ℕ)) : Type 0 where
  pub none : (kept : K) → keep.with_lines names kept [] ≡ kept
  pub then : (kept : K) (lines more : List Line) → keep.with_lines names (keep.with_lines names kept lines) more ≡ keep.with_lines names kept (lines ++ more)
  pub join : (kept : K) (lines : List Line) → keep.joined kept (keep.with_lines names keep.nothing lines) ≡ keep.with_lines names kept lines

module _ {H K L P : Type 0} {l : logs.Ghosts L} {p : disks.Ghosts P} (keep : keepers.Ghosts K) where
  -- the member ran its commands at the first so many places of the round, and all were kept
  pub record IsSoFar (hall : Hall H (Part L P l p) Entry Start) (banks : ℕ) (names : List (List ℕ)) (round : List Item)
      (places : List ℕ) (count : ℕ) (old new : Member K L P l p) : Type 0 where
    pub ran : RanLines hall old.caller new.caller new.lines
    pub may : MayRun hall banks new.caller
    pub number : new.caller.number ≡ old.caller.number
    pub all : map turn_of new.lines ≡ turns_at old.caller.number round (take count places)
    pub kept_is : new.kept ≡ keep.with_lines names old.kept new.lines
    pub few : commands_of new.caller ≤ commands_of old.caller + count

  module _ (hall : Hall H (Part L P l p) Entry Start) (banks : ℕ) (names : List (List ℕ)) (round : List Item)
      (places : List ℕ) (old : Member K L P l p) where
    -- the same, and these are the places that are left
    abbrev pub IsAt : List ℕ → Member K L P l p → Type 0
    IsAt left new = (count : ℕ) × IsSoFar hall banks names round places count old new × (drop count places ≡ left)

    pub at_first : (count : ℕ) → Keeps keep names → Begins hall banks count old → IsSoFar hall banks names round places 0 old old
    at_first count laws b = record {
      ran = subst (RanLines hall old.caller old.caller) (sym b.lines) refl;
      may = b.may;
      number = refl;
      all = ap (map turn_of) b.lines;
      kept_is = sym (laws.none old.kept) ∙ ap (keep.with_lines names old.kept) (sym b.lines);
      few = omega arith;
    }

    -- a command ran, whether it was kept or not
    pub ran_next : {T E : Type 0} (count : ℕ) (command : Command) (result : Result T E) (now new : Member K L P l p)
        → IsSoFar hall banks names round places count old now
        → RunsNext keep hall banks names command result now new → RanLines hall old.caller new.caller new.lines
    ran_next count command result now new i r =
        subst (RanLines hall old.caller new.caller) (sym r.lines)
        (ran_on hall old.caller now.caller new.caller now.lines r.line i.ran r.ran)

    pub number_next : {T E : Type 0} (count : ℕ) (command : Command) (result : Result T E) (now new : Member K L P l p)
        → IsSoFar hall banks names round places count old now
        → RunsNext keep hall banks names command result now new → new.caller.number ≡ old.caller.number
    number_next count command result now new i r = r.ran.ran.count.1 ∙ i.number

    -- and it was kept
    pub so_far_on : {T E : Type 0} (count : ℕ) (command : Command) (x : T) (now new : Member K L P l p) → Keeps keep names
        → count < length places → slice_get round (get_or places count 0) ≡ Some (items.Run now.caller.number command)
        → IsSoFar hall banks names round places count old now
        → RunsNext keep {E = E} hall banks names command (Ok x) now new
        → IsSoFar hall banks names round places (count + 1) old new
    so_far_on {E = E} count command x now new laws low stands i r =
        let n = old.caller.number in
        let front = turns_at n round (take count places) in
        let turn : turn_of r.line ≡ (n, command) =
        ap (λ (b : By). (b.session, r.line.command)) r.ran.by ∙ ap (λ k. (k, r.line.command)) i.number
        ∙ ap (λ (c : Command). (n, c)) r.command_is in
        let own : turns_at n round (get_or places count 0 ∷ []) ≡ (n, command) ∷ [] =
        own_at n round (get_or places count 0) command (stands ∙ ap (λ k. Some (items.Run k command)) i.number) in
        record {
          ran = ran_next {E = E} count command (Ok x) now new i r;
          may = r.may;
          number = number_next {E = E} count command (Ok x) now new i r;
          all =
              ap (map turn_of) r.lines ∙ map-append turn_of now.lines (r.line ∷ [])
              ∙ ap (λ t. t ++ turn_of r.line ∷ []) i.all ∙ ap (λ t. front ++ t ∷ []) turn
              ∙ ap (λ t. front ++ t) (sym own) ∙ sym (turns_at_on n round places count low);
          kept_is =
              r.kept_is ∙ ap (λ t. keep.with_lines names t (r.line ∷ [])) i.kept_is
              ∙ laws.then old.kept now.lines (r.line ∷ []) ∙ ap (keep.with_lines names old.kept) (sym r.lines);
          few = (let c = r.ran.ran.count.0 in let f = i.few in omega (arith, c, f));
        }

    -- no command of the session stands at this place
    pub so_far_same : (count : ℕ) (now : Member K L P l p)
        → count < length places → turns_at now.caller.number round (get_or places count 0 ∷ []) ≡ []
        → IsSoFar hall banks names round places count old now → IsSoFar hall banks names round places (count + 1) old now
    so_far_same count now low none i =
        let n = old.caller.number in
        let front = turns_at n round (take count places) in
        record {
          ran = i.ran;
          may = i.may;
          number = i.number;
          all =
              i.all ∙ sym (append-nil front)
              ∙ ap (λ t. front ++ t) (sym none ∙ ap (λ k. turns_at k round (get_or places count 0 ∷ [])) i.number)
              ∙ sym (turns_at_on n round places count low);
          kept_is = i.kept_is;
          few = (let f = i.few in omega (arith, f));
        }

    -- the same of the next one of the places that are left
    pub at_on : {T E : Type 0} (command : Command) (x : T) (place : ℕ) (left rest : List ℕ) (now new : Member K L P l p) → Keeps keep names
        → left ≡ place ∷ rest → slice_get round place ≡ Some (items.Run now.caller.number command)
        → IsAt left now → RunsNext keep {E = E} hall banks names command (Ok x) now new → IsAt rest new
    at_on {E = E} command x place left rest now new laws e stands i r =
        let next = next_place places i.0 place rest (i.2 ∙ e) in
        (i.0 + 1, so_far_on {E = E} i.0 command x now new laws next.0 (ap (slice_get round) next.1 ∙ stands) i.1 r, next.2)

    pub at_same : (place : ℕ) (left rest : List ℕ) (now : Member K L P l p)
        → left ≡ place ∷ rest → turns_at now.caller.number round (place ∷ []) ≡ [] → IsAt left now → IsAt rest now
    at_same place left rest now e none i =
        let next = next_place places i.0 place rest (i.2 ∙ e) in
        (i.0 + 1, so_far_same i.0 now next.0 (ap (λ k. turns_at now.caller.number round (k ∷ [])) next.1 ∙ none) i.1, next.2)
