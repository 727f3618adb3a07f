-- A round of one session, from its letting in to its taking back.
use Rattle.std.proofs.Common.{◌≡◌, ℕ, zero, suc, ◌<◌, Bool, false, true, List, Result, Ok, Err, IsOk, OnOk, [], ◌∷◌, refl, sym, ap, subst, ◌∙◌, arith, get_or, length, set}
use Rattle.std.proofs.lemmas.Bool.{false≢true}
use Rattle.std.specs.List.{All, flat_map}
use Rattle.disk_core.specs.declared.log_disk.LogDisk as logs
use Rattle.disk_core.specs.declared.page_disk.PageDisk as disks
use Rattle.hall.specs.declared.hall.Hall.{Hall}
use Rattle.hall.specs.Calls.{Joined, start_of, view}
use Rattle.tx_model.specs.declared.report.Line.{Line}
use Rattle.session_lang.specs.declared.script.Item.{Item}
use Rattle.run_law.specs.Turns.{turns_in}
use Rattle.script_rounds.specs.declared.keeper.LineKeeper as keepers
use Rattle.script_rounds.specs.declared.plan.Plan.{Plan}
use Rattle.script_rounds.specs.Plans.{IsPlanOf}
use Rattle.tx_core.specs.declared.entry.Entry.{Entry}
use Rattle.tx_core.specs.declared.entry.Start.{Start}
use Rattle.tx_core.specs.Entries.{session_of}
use Rattle.tx_core.specs.EngineInvariant.{EngineInvariant}
use Rattle.engine_parts.specs.declared.part.Part.{Part}
use Rattle.engine_parts.specs.declared.session.Caller.{Caller}
use Rattle.engine_parts.specs.declared.session.Session.{Session}
use Rattle.engine_parts.specs.Calls.{MayRun}
use Rattle.engine_parts.specs.Law.{writer_of}
use Rattle.engine_host.specs.declared.cluster.Cluster.{Cluster}
use Rattle.engine_host.specs.declared.host.Host.{Host}
use Rattle.engine_host.specs.Hosts.{HoldsAllBut, IsHost, IsParked, OthersStayParked, without}
use Rattle.session_run.specs.declared.member.Member.{Member}
use Rattle.session_run.specs.Rounds.{AllRan, AreApart, AreBack, AreParked, AreSent, MayAdd, MayReturn, StayBehind, WentRound, is_among, numbers_of}
use Rattle.session_run.specs.Turns.{MayGo, RunsRound, keeping}
use Rattle.session_run.proofs.InTurn.{go_keeping}
use Rattle.session_run.proofs.Letting.{AreIn, none_in, one_more_in}
use Rattle.session_run.proofs.Returning.{AreComing, all_back, all_coming, one_back}
use Rattle.session_run.proofs.Rounding.{are_apart, may_all, may_return, numbers_are, others_rest, round_kept, told_of, went}
use Rattle.session_run.proofs.TurnLemmas.{Keeps}

-- whether memory was wanting
abbrev pub was_lost : {T E : Type 0} → Result T E → Bool
was_lost (Ok x) = false
was_lost (Err x) = true

pub not_lost : {T E : Type 0} (r : Result T E) → was_lost r ≡ false → IsOk r
not_lost (Ok x) e = refl
not_lost (Err x) e = absurd (false≢true (sym e))

pub none_lost : {T E : Type 0} (r : Result T E) → OnOk r (was_lost r ≡ false)
none_lost (Ok x) = refl
none_lost (Err x) = tt

-- of the one in a list of one
one_at : {X : Type 0} (Q : ℕ → X → Type 0) (x : X) → Q 0 x → (i : ℕ) (d : X) → i < length (x ∷ []) → Q i (get_or (x ∷ []) i d)
one_at Q x q zero d low = q
one_at Q x q (suc i) d low = absurd (omega (arith, low))

module _ {H K L P : Type 0} {l : logs.Ghosts L} {p : disks.Ghosts P} (keep : keepers.Ghosts K) (hall : Hall H (Part L P l p) Entry Start)
    (first : Host L P l p) (start : List Session) (plan : Plan) (round : List Item) (n : ℕ)
    (alone : plan.sessions.items ≡ n ∷ []) (planned : IsPlanOf round round plan) (places : length plan.places.items ≡ length start) where
  pub known_alone : n < length start
  known_alone =
      let all : All (λ s. s < length plan.places.items) (n ∷ []) = subst (All (λ s. s < length plan.places.items)) alone planned.known in
      let low = all 0 n (omega arith) in
      omega (arith, low, places)

  -- it was let in
  pub record IsIn (mid : Host L P l p) (between : List Session) (x : Member K L P l p) : Type 0 where
    pub is_host : IsHost hall mid
    pub cluster : mid.cluster ≡ first.cluster
    pub seen : (view mid.pass).seen ≡ (view first.pass).seen
    pub sent : AreSent keep hall first start plan.sessions.items (x ∷ [])
    pub stay : StayBehind hall mid plan.sessions.items start between
    pub names : HoldsAllBut mid plan.sessions.items

  pub let_one_in : (mid : Host L P l p) (between : List Session) (new d : Session) (x : Member K L P l p)
      → IsHost hall first → HoldsAllBut first [] → AreParked hall first start → between ≡ set start n new
      → IsHost hall mid → mid.cluster ≡ first.cluster → (view mid.pass).seen ≡ (view first.pass).seen
      → ((away : List ℕ) → HoldsAllBut first away → HoldsAllBut mid (n ∷ away)) → OthersStayParked hall n first mid
      → x.caller.number ≡ n → x.caller.session ≡ get_or start n d → (view x.caller.pass).seen ≡ (view first.pass).seen
      → MayRun hall first.cluster.banks x.caller → x.kept ≡ keep.nothing → x.lines ≡ [] → IsIn mid between x
  let_one_in mid between new d x is all parked put is_mid cluster seen names stay number session told may kept lines =
      let none : List (Member K L P l p) = [] in
      let i : AreIn keep hall first start (n ∷ []) 1 mid between (x ∷ []) =
      one_more_in keep hall first start (n ∷ []) 0 first mid start between none new d x (refl, tt) (omega arith) known_alone
      (none_in keep hall first start (n ∷ []) none is all parked refl) put is_mid cluster seen names stay number session told may kept lines in
      record {
        is_host = is_mid;
        cluster = cluster;
        seen = seen;
        sent = subst (λ ns. AreSent keep hall first start ns (x ∷ [])) (sym alone) (record { count = refl; each = i.sent });
        stay = subst (λ ns. StayBehind hall mid ns start between) (sym alone) i.stay;
        names = subst (HoldsAllBut mid) (sym alone) i.names;
      }

  -- it may go
  pub one_may : (x : Member K L P l p) (kept : K) → AreSent keep hall first start plan.sessions.items (x ∷ []) → MayAdd (length round) start
      → MayGo hall first.cluster.banks round plan (keeping x kept)
  one_may x kept sent room =
      go_keeping hall first.cluster.banks round plan x kept (may_all keep hall first start plan round (x ∷ []) sent planned places room 0 x (omega arith))

  -- it ran, what it told being kept behind something
  module _ (names : List (List ℕ)) (laws : Keeps keep names) (mid : Host L P l p) (between : List Session) (x r : Member K L P l p) (kept : K)
      (is : IsIn mid between x) (none : x.kept ≡ keep.nothing) (Sufficed : Type 0) (lost : Bool) (enough : lost ≡ false → Sufficed)
      (ran : RunsRound keep hall first.cluster.banks names round Sufficed (keeping x kept) r) where
    abbrev own : Member K L P l p
    own = record { caller = r.caller; kept = keep.with_lines names keep.nothing r.lines; lines = r.lines; lost = lost }

    one : RunsRound keep hall first.cluster.banks names round (own.lost ≡ false) x own
    one = record {
      ran = ran.ran;
      may = ran.may;
      number = ran.number;
      all = λ so. ran.all (enough so);
      kept_is = λ so. ap (λ (z : K). keep.with_lines names z r.lines) (sym none);
    }

    each : (i : ℕ) (m : Member K L P l p) → i < length (x ∷ [])
        → RunsRound keep hall first.cluster.banks names round ((get_or (own ∷ []) i m).lost ≡ false) (get_or (x ∷ []) i m) (get_or (own ∷ []) i m)
    each zero m low = one
    each (suc i) m low = absurd (omega (arith, low))

    one_ran : AllRan keep hall first.cluster.banks names round (x ∷ []) (own ∷ [])
    one_ran = record { count = refl; each = each }

    numbers : numbers_of (own ∷ []) ≡ plan.sessions.items
    numbers = numbers_are keep hall first start plan round (x ∷ []) is.sent planned places names (own ∷ []) one_ran

    pub number_is : r.caller.number ≡ n
    number_is = ap (λ ns. get_or ns 0 0) (numbers ∙ alone)

    pub one_returns : MayRun hall mid.cluster.banks r.caller
    one_returns = subst (λ (k : Cluster). MayRun hall k.banks r.caller) (sym is.cluster) ran.may

    coming : AreComing hall mid between (own ∷ []) mid between (own ∷ [])
    coming = all_coming hall mid between (own ∷ []) is.is_host (subst (HoldsAllBut mid) (sym numbers) is.names)
        (may_return keep hall first start plan round (x ∷ []) is.sent planned places names (own ∷ []) one_ran mid.cluster.banks (length between)
        (ap (λ (k : Cluster). k.banks) is.cluster) is.stay.count)
        (subst AreApart (sym numbers) (are_apart round plan planned))
        (others_rest keep hall first start plan round (x ∷ []) is.sent planned places names (own ∷ []) one_ran mid between is.stay)

    -- it was taken back
    pub record HasGone (last : Host L P l p) (final : List Session) (kept' : K) : Type 0 where
      pub is_host : IsHost hall last
      pub cluster : last.cluster ≡ first.cluster
      pub all : HoldsAllBut last []
      pub parked : AreParked hall last final
      pub count : length final ≡ length start
      pub went : lost ≡ false → (lines : List Line) × WentRound hall (turns_in round) first last start final lines
          × (kept' ≡ keep.with_lines names kept lines)

    pub taken_back : (last : Host L P l p) (final : List Session) (session : Session) → IsHost hall last → last.cluster ≡ mid.cluster
        → Joined session_of writer_of EngineInvariant (start_of hall) (view mid.pass) (view r.caller.pass) (view last.pass)
        → ((away : List ℕ) → HoldsAllBut mid away → HoldsAllBut last (without r.caller.number away))
        → IsParked hall last r.caller.number session → session ≡ r.caller.session → OthersStayParked hall r.caller.number mid last
        → final ≡ set between n session → HasGone last final r.kept
    taken_back last final session is_last cluster joined names_then parked session_is stay put =
        let front : List (Member K L P l p) = [] in
        let done : AreComing hall mid between (own ∷ []) last final front =
        one_back hall mid between (own ∷ []) mid last between final (own ∷ []) front own session refl coming is_last cluster joined names_then parked session_is stay
        (put ∙ ap (λ k. set between k session) (sym number_is)) in
        let back : AreBack mid last (own ∷ []) between final = all_back hall mid between (own ∷ []) last final done in
        record {
          is_host = done.host_is;
          cluster = done.cluster ∙ is.cluster;
          all = done.names;
          parked = λ k d low. done.others k d (let e = done.count in omega (arith, e, low)) refl;
          count = done.count ∙ is.stay.count;
          went = λ so.
              let sufficed : All (λ (m : Member K L P l p). m.lost ≡ false) (own ∷ []) = one_at (λ i (m : Member K L P l p). m.lost ≡ false) own so in (
                flat_map (λ (t : ℕ × List Line). t.1) (told_of own ∷ []),
                went keep hall first start plan round (x ∷ []) is.sent planned places names (own ∷ []) one_ran mid last between final is.cluster is.seen is.stay back sufficed,
                round_kept keep hall first start plan round (x ∷ []) is.sent planned places names (own ∷ []) one_ran laws kept r.kept sufficed
                    (ran.kept_is (enough so) ∙ sym (laws.join kept r.lines)),
              );
        }
