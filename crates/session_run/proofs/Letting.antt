-- Sessions are let in, one after another.
use Rattle.std.proofs.Common.{◌≡◌, ℕ, ◌+◌, ◌<◌, ◌≤◌, Contains, List, [], ◌∷◌, ◌++◌, refl, sym, ap, subst, ◌∙◌, arith, ⊎_elim, inl, inr, get_or, get_or-set_other, length, length-append, length-set, set, take}
use Rattle.std.proofs.lemmas.Bool.{cases_lt}
use Rattle.std.proofs.lemmas.List.{get_or_append_left, get_or_default, get_or_push, take_more}
use Rattle.disk_core.specs.declared.log_disk.LogDisk as logs
use Rattle.disk_core.specs.declared.page_disk.PageDisk as disks
use Rattle.hall.specs.declared.hall.Hall.{Hall}
use Rattle.hall.specs.Calls.{view}
use Rattle.script_rounds.specs.declared.keeper.LineKeeper as keepers
use Rattle.tx_core.specs.declared.entry.Entry.{Entry}
use Rattle.tx_core.specs.declared.entry.Start.{Start}
use Rattle.engine_parts.specs.declared.part.Part.{Part}
use Rattle.engine_parts.specs.declared.session.Session.{Session}
use Rattle.engine_parts.specs.Calls.{MayRun}
use Rattle.engine_host.specs.declared.cluster.Cluster.{Cluster}
use Rattle.engine_host.specs.declared.host.Host.{Host}
use Rattle.engine_host.specs.Hosts.{HoldsAllBut, IsHost, IsParked, OthersStayParked}
use Rattle.session_run.specs.declared.member.Member.{Member}
use Rattle.session_run.specs.Rounds.{AreApart, AreParked, IsSent, StayBehind, is_among}
use Rattle.session_run.proofs.Among.{apart_front, contains_moved, not_next}

module _ {H K L P : Type 0} {l : logs.Ghosts L} {p : disks.Ghosts P} (keep : keepers.Ghosts K) where
  -- the first so many are let in
  pub record AreIn (hall : Hall H (Part L P l p) Entry Start) (first : Host L P l p) (start : List Session) (numbers : List ℕ)
      (count : ℕ) (host : Host L P l p) (sessions : List Session) (members : List (Member K L P l p)) : Type 0 where
    pub host_is : IsHost hall host
    pub cluster : host.cluster ≡ first.cluster
    pub seen : (view host.pass).seen ≡ (view first.pass).seen
    pub names : HoldsAllBut host (take count numbers)
    pub many : length members ≡ count
    pub sent : (i : ℕ) (d : Session) (m : Member K L P l p) → i < length members
        → IsSent keep hall first (get_or numbers i 0) (get_or start (get_or numbers i 0) d) (get_or members i m)
    pub stay : StayBehind hall host (take count numbers) start sessions

  pub none_in : (hall : Hall H (Part L P l p) Entry Start) (host : Host L P l p) (sessions : List Session) (numbers : List ℕ)
      (members : List (Member K L P l p)) → IsHost hall host → HoldsAllBut host [] → AreParked hall host sessions → members ≡ []
      → AreIn hall host sessions numbers 0 host sessions members
  none_in hall host sessions numbers members is names parked none = record {
    host_is = is;
    cluster = refl;
    seen = refl;
    names = names;
    many = ap length none;
    sent = λ i d m low. absurd (let e = ap length none in omega (arith, low, e));
    stay = record { count = refl; same = λ n d e. refl; parked = λ n d low e. parked n d low };
  }

  -- the next session is there still
  pub next_rests : (hall : Hall H (Part L P l p) Entry Start) (first : Host L P l p) (start : List Session) (numbers : List ℕ)
      (count : ℕ) (host : Host L P l p) (sessions : List Session) (members : List (Member K L P l p)) (d : Session)
      → AreApart numbers → count < length numbers → get_or numbers count 0 < length start
      → AreIn hall first start numbers count host sessions members
      → IsParked hall host (get_or numbers count 0) (get_or sessions (get_or numbers count 0) d)
  next_rests hall first start numbers count host sessions members d apart low known i =
      let n = get_or numbers count 0 in
      let away = apart_front numbers count apart low in
      subst (IsParked hall host n) (sym (i.stay.same n d away)) (i.stay.parked n d known away)

  pub one_more_in : (hall : Hall H (Part L P l p) Entry Start) (first : Host L P l p) (start : List Session) (numbers : List ℕ)
      (count : ℕ) (host host' : Host L P l p) (sessions sessions' : List Session) (members : List (Member K L P l p))
      (new d : Session) (m : Member K L P l p)
      → AreApart numbers → count < length numbers → get_or numbers count 0 < length start
      → AreIn hall first start numbers count host sessions members
      → sessions' ≡ set sessions (get_or numbers count 0) new
      → IsHost hall host' → host'.cluster ≡ host.cluster → (view host'.pass).seen ≡ (view host.pass).seen
      → ((away : List ℕ) → HoldsAllBut host away → HoldsAllBut host' (get_or numbers count 0 ∷ away))
      → OthersStayParked hall (get_or numbers count 0) host host'
      → m.caller.number ≡ get_or numbers count 0
      → m.caller.session ≡ get_or sessions (get_or numbers count 0) d
      → (view m.caller.pass).seen ≡ (view host.pass).seen
      → MayRun hall host.cluster.banks m.caller
      → m.kept ≡ keep.nothing → m.lines ≡ []
      → AreIn hall first start numbers (count + 1) host' sessions' (members ++ m ∷ [])
  one_more_in hall first start numbers count host host' sessions sessions' members new d m apart low known i put is cluster seen names stay number session told may kept lines =
      let n = get_or numbers count 0 in
      let away = apart_front numbers count apart low in
      let more : take (count + 1) numbers ≡ take count numbers ++ n ∷ [] = take_more numbers count 0 low in
      record {
        host_is = is;
        cluster = cluster ∙ i.cluster;
        seen = seen ∙ i.seen;
        names = λ k low. ⊎_elim
            (λ h. inl h)
            (λ (c : Contains (n ∷ take count numbers) k). inr (subst (λ t. Contains t k) (sym more) (contains_moved (take count numbers) n k c)))
            (names (take count numbers) i.names k low);
        many = length-append members (m ∷ []) ∙ ap (λ k. k + 1) i.many;
        sent = λ j e x inside. ⊎_elim
            (λ (before : j < length members). subst (IsSent keep hall first (get_or numbers j 0) (get_or start (get_or numbers j 0) e)) (sym (get_or_append_left members (m ∷ []) x j before)) (i.sent j e x before))
            (λ (past : length members ≤ j).
            let here : j ≡ count = (let a = i.many in let b = length-append members (m ∷ []) in omega (arith, a, b, inside, past)) in
            subst (λ q. IsSent keep hall first (get_or numbers q 0) (get_or start (get_or numbers q 0) e) (get_or (members ++ m ∷ []) q x)) (sym here)
            (subst (IsSent keep hall first n (get_or start n e)) (sym (get_or_push members m x count i.many)) (record {
              number = number;
              session = session ∙ i.stay.same n d away ∙ get_or_default start n d e known;
              told = told ∙ i.seen;
              may = subst (λ (c : Cluster). MayRun hall c.banks m.caller) i.cluster may;
              kept = kept;
              lines = lines;
            })))
            (cases_lt j (length members));
        stay = record {
          count = ap length put ∙ length-set sessions n new ∙ i.stay.count;
          same = λ k e a.
              let b = not_next (take count numbers) n k (ap (λ t. is_among t k) (sym more) ∙ a) in
              ap (λ t. get_or t k e) put ∙ get_or-set_other sessions n k new e b.1 ∙ i.stay.same k e b.0;
          parked = λ j e inside a.
              let b = not_next (take count numbers) n j (ap (λ t. is_among t j) (sym more) ∙ a) in
              stay j (get_or start j e) b.1 (i.stay.parked j e inside b.0);
        };
      }
