-- A round, from its sessions let in to their taking back.
use Rattle.std.proofs.Common.{◌≡◌, ◌==◌, ℕ, zero, suc, ◌+◌, ◌^◌, ◌<◌, ◌≤◌, false, List, [], ◌∷◌, ◌++◌, Result, Ok, Err, OnOk, refl, sym, ap, subst, ◌∙◌, arith, append-nil, drop, get_or, length, map, take}
use Rattle.std.proofs.lemmas.List.{drop_all, get_or_default, take_all}
use Rattle.std.proofs.lemmas.List.Elements.{All-get_or}
use Rattle.std.proofs.lemmas.Option.{slice_get-get_or}
use Rattle.std.specs.List.{All, flat_map}
use Rattle.disk_core.specs.declared.log_disk.LogDisk as logs
use Rattle.disk_core.specs.declared.page_disk.PageDisk as disks
use Rattle.hall.specs.declared.hall.Hall.{Hall}
use Rattle.hall.specs.Calls.{start_of, view}
use Rattle.notes.specs.Lists.{Grows, Knows}
use Rattle.tx_events.specs.Places.{first_seen}
use Rattle.tx_model.specs.declared.command.Command.{Command}
use Rattle.tx_model.specs.declared.report.Line.{Line}
use Rattle.tx_model.specs.Lines.{turn_of}
use Rattle.session_lang.specs.declared.script.Item.{Item}
use Rattle.session_lang.specs.Rounds.{sessions_in, turns_of}
use Rattle.run_law.specs.Turns.{turns_in}
use Rattle.script_rounds.specs.declared.keeper.LineKeeper as keepers
use Rattle.script_rounds.specs.declared.plan.Plan.{Plan}
use Rattle.script_rounds.specs.Plans.{HasPlaces, IsPlanOf}
use Rattle.script_rounds.proofs.RoundLemmas.{sessions_of_turns, turns_short}
use Rattle.tx_core.specs.declared.entry.Entry.{Entry}
use Rattle.tx_core.specs.declared.entry.Start.{Start}
use Rattle.tx_core.specs.Entries.{session_of}
use Rattle.tx_events.proofs.ListSteps.{filter_length}
use Rattle.engine_parts.specs.declared.part.Part.{Part}
use Rattle.engine_parts.specs.declared.session.Session.{Session}
use Rattle.engine_parts.specs.Calls.{MayRun}
use Rattle.engine_parts.specs.Sessions.{MayCall}
use Rattle.engine_host.specs.declared.cluster.Cluster.{Cluster}
use Rattle.engine_host.specs.declared.host.Host.{Host}
use Rattle.engine_host.specs.Hosts.{IsParked}
use Rattle.session_run.specs.declared.member.Member.{Member}
use Rattle.session_run.specs.Rounds.{AllRan, AreApart, AreBack, AreSent, MayAdd, MayReturn, StayBehind, TookPart, WentRound, is_among, numbers_of, with_members}
use Rattle.session_run.specs.Turns.{MayGo, commands_of}
use Rattle.session_run.proofs.Among.{first_apart}
use Rattle.session_run.proofs.TurnLemmas.{Keeps}

pub both_ok : {T E : Type 0} (A B C : Type 0) (r : Result T E) → (A → B → C) → OnOk r A → OnOk r B → OnOk r C
both_ok A B C (Ok x) f a b = f a b
both_ok A B C (Err x) f a b = tt

-- what a slice of a whole vector wrote back
pub written_back : {X : Type 0} (n : ℕ) (xs ys : List X) → length ys ≡ length xs → n ≡ length xs → take n (ys ++ drop (length ys) xs) ≡ ys
written_back n xs ys e l =
    ap (λ t. take n (ys ++ t)) (drop_all (length ys) xs (omega (arith, e)))
    ∙ ap (take n) (append-nil ys)
    ∙ take_all n ys (omega (arith, e, l))

-- lists that are alike at each place
same_at : {X : Type 0} (xs ys : List X) → length xs ≡ length ys → ((i : ℕ) (d : X) → i < length xs → get_or xs i d ≡ get_or ys i d) → xs ≡ ys
same_at [] [] e f = refl
same_at [] (y ∷ ys) e f = absurd (omega (arith, e))
same_at (x ∷ xs) [] e f = absurd (omega (arith, e))
same_at (x ∷ xs) (y ∷ ys) e f =
    ap (λ z. z ∷ xs) (f 0 x (omega arith)) ∙ ap (λ t. y ∷ t) (same_at xs ys (omega (arith, e)) (λ i d l. f (suc i) d (omega (arith, l))))

get_or-map : {X Y : Type 0} (f : X → Y) (xs : List X) (i : ℕ) (d : Y) (x : X) → i < length xs → get_or (map f xs) i d ≡ f (get_or xs i x)
get_or-map f [] i d x l = absurd (omega (arith, l))
get_or-map f (y ∷ xs) zero d x l = refl
get_or-map f (y ∷ xs) (suc i) d x l = get_or-map f xs i d x (omega (arith, l))

length-mapped : {X Y : Type 0} (f : X → Y) (xs : List X) → length (map f xs) ≡ length xs
length-mapped f [] = refl
length-mapped f (x ∷ xs) = ap suc (length-mapped f xs)

there : {X : Type 0} (xs : List X) (k : ℕ) → k < length xs → X
there [] k low = absurd (omega (arith, low))
there (x ∷ xs) zero low = x
there (x ∷ xs) (suc k) low = there xs k (omega (arith, low))

module _ {K L P : Type 0} {l : logs.Ghosts L} {p : disks.Ghosts P} where
  -- whose lines they are
  abbrev pub told_of : Member K L P l p → ℕ × List Line
  told_of m = (m.caller.number, m.lines)

  firsts_told : (ms : List (Member K L P l p)) → map (λ (t : ℕ × List Line). t.0) (map told_of ms) ≡ numbers_of ms
  firsts_told [] = refl
  firsts_told (m ∷ ms) = ap (λ t. m.caller.number ∷ t) (firsts_told ms)

module _ {K L P : Type 0} {l : logs.Ghosts L} {p : disks.Ghosts P} (keep : keepers.Ghosts K) where
  -- one member behind the others
  pub members_push : (kept : K) (ms : List (Member K L P l p)) (m : Member K L P l p) → with_members keep kept (ms ++ m ∷ []) ≡ keep.joined (with_members keep kept ms) m.kept
  members_push kept [] m = refl
  members_push kept (x ∷ ms) m = members_push (keep.joined kept x.kept) ms m

  -- what all members kept is what they told
  pub members_kept : (names : List (List ℕ)) → Keeps keep names → (kept : K) (ms : List (Member K L P l p))
      → ((i : ℕ) (m : Member K L P l p) → i < length ms → (get_or ms i m).kept ≡ keep.with_lines names keep.nothing (get_or ms i m).lines)
      → with_members keep kept ms ≡ keep.with_lines names kept (flat_map (λ (t : ℕ × List Line). t.1) (map told_of ms))
  members_kept names laws kept [] f = sym (laws.none kept)
  members_kept names laws kept (m ∷ ms) f =
      let lines = flat_map (λ (t : ℕ × List Line). t.1) (map told_of ms) in
      let one : keep.joined kept m.kept ≡ keep.with_lines names kept m.lines = ap (keep.joined kept) (f 0 m (omega arith)) ∙ laws.join kept m.lines in
      members_kept names laws (keep.joined kept m.kept) ms (λ i x low. f (suc i) x (omega (arith, low)))
      ∙ ap (λ z. keep.with_lines names z lines) one ∙ laws.then kept m.lines lines

-- how many commands of the round are a session's
few_turns : (n : ℕ) (round : List Item) → length (turns_of n (turns_in round)) ≤ length round
few_turns n round =
    let a = filter_length (λ (t : ℕ × Command). t.0 == n) (turns_in round) in let b = turns_short round in omega (arith, a, b)

pub are_apart : (round : List Item) (plan : Plan) → IsPlanOf round round plan → AreApart plan.sessions.items
are_apart round plan planned = subst AreApart (sym planned.sessions) (first_apart (sessions_in round))

module _ {H K L P : Type 0} {l : logs.Ghosts L} {p : disks.Ghosts P} (keep : keepers.Ghosts K) where
  -- the sessions of a round were let in
  module _ (hall : Hall H (Part L P l p) Entry Start) (first : Host L P l p) (start : List Session) (plan : Plan)
      (round : List Item) (sent : List (Member K L P l p))
      (are : AreSent keep hall first start plan.sessions.items sent)
      (planned : IsPlanOf round round plan) (places : length plan.places.items ≡ length start) where
    inside : (i : ℕ) → i < length sent → i < length plan.sessions.items
    inside i low = (let c = are.count in omega (arith, c, low))

    planned_at : (i : ℕ) → i < length sent → get_or plan.sessions.items i 0 < length plan.places.items
    planned_at i low = All-get_or (λ s. s < length plan.places.items) plan.sessions.items i 0 (inside i low) planned.known

    known_at : (i : ℕ) → i < length sent → get_or plan.sessions.items i 0 < length start
    known_at i low = (let a = planned_at i low in omega (arith, a, places))

    -- each may go through the round
    pub may_all : MayAdd (length round) start → All (MayGo hall first.cluster.banks round plan) sent
    may_all room = λ i m low.
        let n = get_or plan.sessions.items i 0 in
        let d : Session = there start n (known_at i low) in
        let s = are.each i d m low in
        let x = get_or sent i m in
        let has = planned.places n (get_or plan.places.items n []) (slice_get-get_or plan.places.items n [] (planned_at i low)) in
        let few = few_turns n round in
        let count = has.count in
        let more = room n d (known_at i low) in
        let run : commands_of x.caller ≡ (get_or start n d).levels.commands = ap (λ (z : Session). z.levels.commands) s.session in
        record {
          planned = subst (λ k. k < length plan.places.items) (sym s.number) (planned_at i low);
          places = subst (λ k. HasPlaces k round round (get_or plan.places.items k [])) (sym s.number) has;
          begins = record {
            may = s.may;
            room = subst (λ k. commands_of x.caller + length (get_or plan.places.items k []) < 2 ^ 48) (sym s.number) (omega (arith, few, count, more, run));
            lines = s.lines;
          };
        }

    pub none_kept : All (λ (m : Member K L P l p). m.kept ≡ keep.nothing) sent
    none_kept = λ i m low. (are.each i (there start (get_or plan.sessions.items i 0) (known_at i low)) m low).kept

    -- they ran
    module _ (names : List (List ℕ)) (ran : List (Member K L P l p))
        (all : AllRan keep hall first.cluster.banks names round sent ran) where
      low_too : (i : ℕ) → i < length ran → i < length sent
      low_too i low = (let c = all.count in omega (arith, c, low))

      number_at : (i : ℕ) (m : Member K L P l p) → i < length ran → (get_or ran i m).caller.number ≡ get_or plan.sessions.items i 0
      number_at i m low =
          let d : Session = there start (get_or plan.sessions.items i 0) (known_at i (low_too i low)) in
          (all.each i m (low_too i low)).number ∙ (are.each i d m (low_too i low)).number

      pub numbers_are : numbers_of ran ≡ plan.sessions.items
      numbers_are = same_at (numbers_of ran) plan.sessions.items
          (length-mapped (λ (m : Member K L P l p). m.caller.number) ran ∙ all.count ∙ are.count)
          (λ i d low.
          let here : i < length ran = subst (λ k. i < k) (length-mapped (λ (m : Member K L P l p). m.caller.number) ran) low in
          let m : Member K L P l p = there ran i here in
          get_or-map (λ (m : Member K L P l p). m.caller.number) ran i d m here ∙ number_at i m here
          ∙ get_or_default plan.sessions.items i 0 d (inside i (low_too i here)))

      pub may_return : (banks count : ℕ) → banks ≡ first.cluster.banks → count ≡ length start → All (MayReturn hall banks count) ran
      may_return banks count same long = λ i m low. record {
        may = subst (λ k. MayRun hall k (get_or ran i m).caller) (sym same) (all.each i m (low_too i low)).may;
        known = (let a = number_at i m low in let b = known_at i (low_too i low) in omega (arith, a, b, long));
      }

      -- the others may be let in still
      pub others_rest : (mid : Host L P l p) (between : List Session) → StayBehind hall mid plan.sessions.items start between
          → (n : ℕ) (d : Session) → n < length between → is_among (numbers_of ran) n ≡ false
          → IsParked hall mid n (get_or between n d)
      others_rest mid between stay n d low e =
          let out = ap (λ t. is_among t n) (sym numbers_are) ∙ e in
          subst (IsParked hall mid n) (sym (stay.same n d out)) (stay.parked n d (let c = stay.count in omega (arith, c, low)) out)

      -- and were taken back
      pub went : (mid last : Host L P l p) (between final : List Session)
          → mid.cluster ≡ first.cluster → (view mid.pass).seen ≡ (view first.pass).seen
          → StayBehind hall mid plan.sessions.items start between → AreBack mid last ran between final
          → All (λ (m : Member K L P l p). m.lost ≡ false) ran
          → WentRound hall (turns_in round) first last start final (flat_map (λ (t : ℕ × List Line). t.1) (map told_of ran))
      went mid last between final cluster seen stay back sufficed =
          let firsts : map (λ (t : ℕ × List Line). t.0) (map told_of ran) ≡ plan.sessions.items = firsts_told ran ∙ numbers_are in
          let long : length (map told_of ran) ≡ length ran = length-mapped told_of ran in
          let at : (i : ℕ) → i < length (map told_of ran) → i < length ran = λ i low. subst (λ k. i < k) long low in
          record {
            told = map told_of ran;
            order = firsts ∙ planned.sessions ∙ ap first_seen (sym (sessions_of_turns round));
            part = λ i d t low.
                let here = at i low in
                let m : Member K L P l p = there ran i here in
                let r = get_or ran i m in
                let n = get_or plan.sessions.items i 0 in
                let s = are.each i d m (low_too i here) in
                let x = get_or sent i m in
                let a = all.each i m (low_too i here) in
                let b = back.back i d m here in
                let q : r.caller.number ≡ n = number_at i m here in
                let was : x.caller.session ≡ get_or start r.caller.number d = s.session ∙ ap (λ k. get_or start k d) (sym q) in
                subst (λ (u : ℕ × List Line). TookPart hall first last u.0 (get_or start u.0 d) (get_or final u.0 d) u.1)
                (sym (get_or-map told_of ran i t m here))
                (record {
                  first = x.caller;
                  last = r.caller;
                  number = sym a.number;
                  was = was;
                  told = s.told;
                  might = subst (λ (u : ℕ × Session). MayCall (start_of hall) (view x.caller.pass) u.0 u.1) (λ j. (sym a.number j, was j)) s.may.step.may;
                  ran = a.ran;
                  is = sym b.session;
                  known = b.known;
                });
            commands = λ i t low.
                let here = at i low in
                let m : Member K L P l p = there ran i here in
                let a = all.each i m (low_too i here) in
                subst (λ (u : ℕ × List Line). map turn_of u.1 ≡ turns_of u.0 (turns_in round)) (sym (get_or-map told_of ran i t m here))
                (a.all (sufficed i m here) ∙ ap (λ k. turns_of k (turns_in round)) (sym a.number));
            same = λ n d e.
                back.same n d (ap (λ t. is_among t n) (numbers_are ∙ sym firsts) ∙ e)
                ∙ stay.same n d (ap (λ t. is_among t n) (sym firsts) ∙ e);
            idle = λ n low e.
                subst (λ v. Knows session_of n v (view last.pass).seen) seen
                (back.idle n (let c = stay.count in omega (arith, c, low)) (ap (λ t. is_among t n) (numbers_are ∙ sym firsts) ∙ e));
            hosts = subst (λ v. Knows session_of first.cluster.sessions v (view last.pass).seen) seen
                (subst (λ (k : Cluster). Knows session_of k.sessions (view mid.pass).seen (view last.pass).seen) cluster back.hosts);
            grows = subst (λ v. Grows v (view last.pass).seen) seen back.grows;
            lines_are = refl;
          }

      -- and what was kept of it
      pub round_kept : Keeps keep names → (kept kept' : K) → All (λ (m : Member K L P l p). m.lost ≡ false) ran
          → kept' ≡ with_members keep kept ran
          → kept' ≡ keep.with_lines names kept (flat_map (λ (t : ℕ × List Line). t.1) (map told_of ran))
      round_kept laws kept kept' sufficed put =
          put
          ∙ members_kept keep names laws kept ran (λ i m low.
          (all.each i m (low_too i low)).kept_is (sufficed i m low)
          ∙ ap (λ (z : K). keep.with_lines names z (get_or ran i m).lines) (none_kept i m (low_too i low)))
