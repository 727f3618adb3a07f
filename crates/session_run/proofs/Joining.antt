-- The members of a round keep nothing any more once it is kept for the run, and call as before.
use Rattle.std.proofs.Common.{◌≡◌, ℕ, ◌+◌, ◌<◌, ◌≤◌, List, [], ◌∷◌, ◌++◌, refl, sym, ap, subst, ◌∙◌, arith, drop, get_or, length, length-set, map, set, take}
use Rattle.std.proofs.Math.ListN.{get_or-map}
use Rattle.std.proofs.Math.Seq.{map-set_same, take-length}
use Rattle.std.proofs.lemmas.Grind.{drop_more_same}
use Rattle.std.proofs.lemmas.List.{drop-set-lt, get_or-drop, length-map, take-append-le}
use Rattle.std.specs.List.{All}
use Rattle.disk_core.specs.declared.log_disk.LogDisk as logs
use Rattle.disk_core.specs.declared.page_disk.PageDisk as disks
use Rattle.hall.specs.declared.hall.Hall.{Hall}
use Rattle.hall.specs.Calls.{view}
use Rattle.notes.specs.Lists.{Knows}
use Rattle.tx_core.specs.declared.entry.Entry.{Entry}
use Rattle.tx_core.specs.declared.entry.Start.{Start}
use Rattle.tx_core.specs.Entries.{session_of}
use Rattle.engine_parts.specs.declared.part.Part.{Part}
use Rattle.engine_parts.specs.declared.session.Caller.{Caller}
use Rattle.engine_parts.specs.declared.session.Session.{Session}
use Rattle.engine_parts.specs.Calls.{MayRun}
use Rattle.engine_host.specs.declared.host.Host.{Host}
use Rattle.session_run.specs.declared.member.Member.{Member}
use Rattle.session_run.specs.Rounds.{AreBack, MayReturn, callers_of, is_among, numbers_of}

-- what stands at a place behind which two lists are alike
pub here_same : {X : Type 0} (xs ys : List X) (i : ℕ) (d : X) → drop i ys ≡ drop i xs → get_or ys i d ≡ get_or xs i d
here_same xs ys i d same =
    ap (λ k. get_or ys k d) (omega arith) ∙ sym (get_or-drop i ys 0 d) ∙ ap (λ t. get_or t 0 d) same
    ∙ get_or-drop i xs 0 d ∙ ap (λ k. get_or xs k d) (omega arith)

-- behind that place they stay alike where it changes
pub rest_same : {X : Type 0} (xs ys : List X) (i : ℕ) (y : X) → drop i ys ≡ drop i xs → drop (i + 1) (set ys i y) ≡ drop (i + 1) xs
rest_same xs ys i y same = drop-set-lt (i + 1) ys i y (omega arith) ∙ drop_more_same ys xs i same

module _ {K L P : Type 0} {l : logs.Ghosts L} {p : disks.Ghosts P} where
  pub callers_set : (xs ys : List (Member K L P l p)) (i : ℕ) (d m : Member K L P l p)
      → m.caller ≡ (get_or ys i d).caller → callers_of ys ≡ callers_of xs → callers_of (set ys i m) ≡ callers_of xs
  callers_set xs ys i d m here same = map-set_same (λ (x : Member K L P l p). x.caller) ys i m d here ∙ same

  -- where it changed in a vector that is written back
  pub callers_back : (xs ys all : List (Member K L P l p)) (n i : ℕ) (d m : Member K L P l p)
      → m.caller ≡ (get_or ys i d).caller → callers_of ys ≡ callers_of xs → length xs ≡ n → xs ≡ all
      → callers_of (take n (set ys i m ++ drop (length (set ys i m)) all)) ≡ callers_of all
  callers_back xs ys all n i d m here same long is =
      let s : List (Member K L P l p) = set ys i m in
      let rest : List (Member K L P l p) = drop (length s) all in
      let f : Member K L P l p → Caller L P l p = λ x. x.caller in
      let count : n ≡ length s = sym long ∙ (sym (length-map xs f) ∙ ap length (sym same) ∙ length-map ys f) ∙ sym (length-set ys i m) in
      let whole : take n (s ++ rest) ≡ s = ap (λ k. take k (s ++ rest)) count ∙ take-append-le (length s) s rest (least (length s)) ∙ take-length s in
      ap callers_of whole ∙ callers_set xs ys i d m here same ∙ ap callers_of is
    where
      least : (n : ℕ) → n ≤ n
      least n = omega arith

  module _ (old new : List (Member K L P l p)) (same : callers_of new ≡ callers_of old) where
    count_same : length new ≡ length old
    count_same =
        sym (length-map new (λ (m : Member K L P l p). m.caller)) ∙ ap length same
        ∙ length-map old (λ (m : Member K L P l p). m.caller)

    caller_same : (i : ℕ) (m : Member K L P l p) → (get_or new i m).caller ≡ (get_or old i m).caller
    caller_same i m =
        sym (get_or-map (λ (x : Member K L P l p). x.caller) new i m) ∙ ap (λ t. get_or t i m.caller) same
        ∙ get_or-map (λ (x : Member K L P l p). x.caller) old i m

    numbers_by_callers : (ms : List (Member K L P l p)) → numbers_of ms ≡ map (λ (c : Caller L P l p). c.number) (callers_of ms)
    numbers_by_callers [] = refl
    numbers_by_callers (m ∷ ms) = ap (λ t. m.caller.number ∷ t) (numbers_by_callers ms)

    pub numbers_same : numbers_of new ≡ numbers_of old
    numbers_same =
        numbers_by_callers new ∙ ap (map (λ (c : Caller L P l p). c.number)) same ∙ sym (numbers_by_callers old)

    pub may_same : {H : Type 0} (hall : Hall H (Part L P l p) Entry Start) (banks count : ℕ)
        → All (MayReturn hall banks count) old → All (MayReturn hall banks count) new
    may_same hall banks count all = λ i m low.
        let e = caller_same i m in let lengths = count_same in
        let a = all i m (omega arith) in
        record {
          may = subst (MayRun hall banks) (sym e) a.may;
          known = subst (λ (c : Caller L P l p). c.number < count) (sym e) a.known;
        }

    pub back_same : (before after : Host L P l p) (start final : List Session)
        → AreBack before after new start final → AreBack before after old start final
    back_same before after start final back = record {
      count = back.count;
      back = λ i d m low.
          let e = caller_same i m in let lengths = count_same in
          let a = back.back i d m (omega arith) in
          record {
            session = subst (λ (c : Caller L P l p). get_or final c.number d ≡ c.session) e a.session;
            known = subst (λ (c : Caller L P l p). Knows session_of c.number (view c.pass).seen (view after.pass).seen) e a.known;
          };
      same = λ n d out. back.same n d (ap (λ t. is_among t n) numbers_same ∙ out);
      idle = λ n low out. back.idle n low (ap (λ t. is_among t n) numbers_same ∙ out);
      hosts = back.hosts;
      grows = back.grows;
    }
