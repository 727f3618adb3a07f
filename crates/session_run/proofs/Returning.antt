-- Sessions are taken back, the last one first.
use Rattle.std.proofs.Common.{◌≡◌, ◌≢◌, ℕ, ◌<◌, false, Contains, List, [], ◌∷◌, ◌++◌, refl, sym, ap, subst, ◌∙◌, arith, ⊎_elim, inl, inr, get_or, get_or-set_other, get_or-set_same, length, length-append, length-set, set, append-nil, append_assoc, zero, suc}
use mathlib.Core.Logic.{dite}
use native.Mathlib.Decide.{ℕ_discrete}
use Rattle.std.proofs.lemmas.List.{get_or_push, map-append}
use Rattle.std.proofs.lemmas.List.Elements.{All-from_recursion, All-get_or, recursion_from_All}
use Rattle.std.specs.List.{All}
use Rattle.disk_core.specs.declared.log_disk.LogDisk as logs
use Rattle.disk_core.specs.declared.page_disk.PageDisk as disks
use Rattle.hall.specs.declared.hall.Hall.{Hall}
use Rattle.hall.specs.Calls.{Joined, start_of, view}
use Rattle.hall.specs.Rule.{Holds}
use Rattle.notes.specs.Lists.{Grows, Knows, at}
use Rattle.tx_core.specs.declared.entry.Entry.{Entry}
use Rattle.tx_core.specs.declared.entry.Start.{Start}
use Rattle.tx_core.specs.Entries.{session_of}
use Rattle.tx_core.specs.EngineInvariant.{EngineInvariant}
use Rattle.engine_parts.specs.declared.part.Part.{Part}
use Rattle.engine_parts.specs.declared.session.Caller.{Caller}
use Rattle.engine_parts.specs.declared.session.Session.{Session}
use Rattle.engine_parts.proofs.Leaving.{grows_then}
use Rattle.notes.proofs.Growing.{begins_same}
use Rattle.script_rounds.proofs.ListLemmas.{all_front}
use Rattle.engine_parts.specs.Calls.{MayRun}
use Rattle.engine_parts.specs.Law.{writer_of}
use Rattle.engine_host.specs.declared.cluster.Cluster.{Cluster}
use Rattle.engine_host.specs.declared.host.Host.{Host}
use Rattle.engine_host.specs.Hosts.{HoldsAllBut, IsHost, IsParked, OthersStayParked, without}
use Rattle.session_run.specs.declared.member.Member.{Member}
use Rattle.session_run.specs.Rounds.{AreApart, AreBack, IsBack, MayReturn, is_among, numbers_of}
use Rattle.session_run.proofs.Among.{among_append, among_both, apart_last, not_next, or_false_left, without_last}

nat_cases : (F : ℕ → Type 0) → F 0 → ((j : ℕ) → F (suc j)) → (j : ℕ) → F j
nat_cases F z s zero = z
nat_cases F z s (suc j) = s j

all_before : {X : Type 0} (F : X → Type 0) (xs : List X) (x : X) → All F (xs ++ x ∷ []) → All F xs
all_before F xs x a = All-from_recursion F xs (all_front F xs (x ∷ []) (recursion_from_All F (xs ++ x ∷ []) a)).0

pub last_of : {X : Type 0} (F : X → Type 0) (xs : List X) (x : X) → All F (xs ++ x ∷ []) → F x
last_of F xs x a =
    subst F (get_or_push xs x x (length xs) refl) (All-get_or F (xs ++ x ∷ []) (length xs) x (omega (arith, length-append xs (x ∷ []))) a)

pub grows_same : (a : List (List Entry)) → Grows a a
grows_same a = record { begins = λ q. begins_same (at a q) }

pub knows_then : (n : ℕ) (a b c : List (List Entry)) → Knows session_of n a b → Knows session_of n b c → Knows session_of n a c
knows_then n a b c f g = record { grows = grows_then a b c f.grows g.grows; own = λ place. g.own place ∙ f.own place }

module _ {K L P : Type 0} {l : logs.Ghosts L} {p : disks.Ghosts P} where
  -- the member is none of those that are left, and was taken back
  abbrev IsGone : ℕ → Host L P l p → List Session → List (Member K L P l p) → Session → Member K L P l p → Type 0
  IsGone count host sessions left d m =
      (is_among (numbers_of left) m.caller.number ≡ false) × (m.caller.number < count)
      × IsBack host (get_or sessions m.caller.number d) m

module _ {H L P : Type 0} {l : logs.Ghosts L} {p : disks.Ghosts P} where
  -- a session that may run a command has its own name
  named_own : {hall : Hall H (Part L P l p) Entry Start} {banks : ℕ} (c : Caller L P l p) → MayRun hall banks c → Holds (view c.pass) c.number
  named_own c may = subst (Holds (view c.pass)) may.step.may.ready.at.name may.step.own.named

module _ {H K L P : Type 0} {l : logs.Ghosts L} {p : disks.Ghosts P} where
  -- these are left, and those behind them were taken back
  pub record AreComing (hall : Hall H (Part L P l p) Entry Start) (first : Host L P l p) (start : List Session)
      (all : List (Member K L P l p)) (host : Host L P l p) (sessions : List Session) (left : List (Member K L P l p))
      : Type 0 where
    pub gone : List (Member K L P l p)
    pub split : left ++ gone ≡ all
    pub host_is : IsHost hall host
    pub cluster : host.cluster ≡ first.cluster
    pub names : HoldsAllBut host (numbers_of left)
    pub may : All (MayReturn hall first.cluster.banks (length start)) left
    pub apart : AreApart (numbers_of left)
    pub others : (n : ℕ) (d : Session) → n < length start → is_among (numbers_of left) n ≡ false
        → IsParked hall host n (get_or sessions n d)
    pub count : length sessions ≡ length start
    pub back : (i : ℕ) (d : Session) (m : Member K L P l p) → i < length gone
        → IsGone (length start) host sessions left d (get_or gone i m)
    pub same : (n : ℕ) (d : Session) → is_among (numbers_of all) n ≡ false → get_or sessions n d ≡ get_or start n d
    pub idle : (n : ℕ) → n < length start → is_among (numbers_of all) n ≡ false
        → Knows session_of n (view first.pass).seen (view host.pass).seen
    pub hosts : Knows session_of first.cluster.sessions (view first.pass).seen (view host.pass).seen
    pub grows : Grows (view first.pass).seen (view host.pass).seen

  pub all_coming : (hall : Hall H (Part L P l p) Entry Start) (host : Host L P l p) (start : List Session)
      (all : List (Member K L P l p)) → IsHost hall host → HoldsAllBut host (numbers_of all)
      → All (MayReturn hall host.cluster.banks (length start)) all → AreApart (numbers_of all)
      → ((n : ℕ) (d : Session) → n < length start → is_among (numbers_of all) n ≡ false
      → IsParked hall host n (get_or start n d)) → AreComing hall host start all host start all
  all_coming hall host start all is names may apart others = record {
    gone = [];
    split = append-nil all;
    host_is = is;
    cluster = refl;
    names = names;
    may = may;
    apart = apart;
    others = others;
    count = refl;
    back = λ i d m low. absurd (omega (arith, low));
    same = λ n d e. refl;
    idle = λ n low e. record { grows = grows_same (view host.pass).seen; own = λ place. refl };
    hosts = record { grows = grows_same (view host.pass).seen; own = λ place. refl };
    grows = grows_same (view host.pass).seen;
  }

  -- the last of them is taken back
  pub one_back : (hall : Hall H (Part L P l p) Entry Start) (first : Host L P l p) (start : List Session)
      (all : List (Member K L P l p)) (host host' : Host L P l p) (sessions sessions' : List Session)
      (left front : List (Member K L P l p)) (m : Member K L P l p) (session : Session)
      → left ≡ front ++ m ∷ [] → AreComing hall first start all host sessions left
      → IsHost hall host' → host'.cluster ≡ host.cluster
      → Joined session_of writer_of EngineInvariant (start_of hall) (view host.pass) (view m.caller.pass) (view host'.pass)
      → ((away : List ℕ) → HoldsAllBut host away → HoldsAllBut host' (without m.caller.number away))
      → IsParked hall host' m.caller.number session → session ≡ m.caller.session
      → OthersStayParked hall m.caller.number host host'
      → sessions' ≡ set sessions m.caller.number session
      → AreComing hall first start all host' sessions' front
  one_back hall first start all host host' sessions sessions' left front m session last i is cluster joined names parked session_is stay put =
      let n = m.caller.number in
      let before : numbers_of left ≡ numbers_of front ++ n ∷ [] =
      ap numbers_of last ∙ map-append (λ (x : Member K L P l p). x.caller.number) front (m ∷ []) in
      let apart = apart_last (numbers_of front) n (subst AreApart before i.apart) in
      let mine : MayReturn hall first.cluster.banks (length start) m =
      last_of (MayReturn hall first.cluster.banks (length start)) front m (subst (All (MayReturn hall first.cluster.banks (length start))) last i.may) in
      let low : n < length sessions = (let a = mine.known in let b = i.count in omega (arith, a, b)) in
      let seen : (view host'.pass).seen ≡ joined.lists = ap (λ v. v.seen) joined.view_is in
      let learnt : (k : ℕ) → Holds (view host.pass) k → Knows session_of k (view host.pass).seen (view host'.pass).seen = λ k held.
      subst (Knows session_of k (view host.pass).seen) (sym seen)
      (record { grows = joined.moment.grows; own = λ place. (joined.moment.own_seen k held).entries place }) in
      let outside : (k : ℕ) → is_among (numbers_of left) k ≡ false → (is_among (numbers_of front) k ≡ false) × (k ≢ n) = λ k e.
      not_next (numbers_of front) n k (ap (λ t. is_among t k) (sym before) ∙ e) in
      let all_is : numbers_of all ≡ numbers_of left ++ numbers_of i.gone =
      ap numbers_of (sym i.split) ∙ map-append (λ (x : Member K L P l p). x.caller.number) left i.gone in
      let left_out : (k : ℕ) → is_among (numbers_of all) k ≡ false → is_among (numbers_of left) k ≡ false = λ k e.
      or_false_left (is_among (numbers_of left) k) (is_among (numbers_of i.gone) k)
      (sym (among_append (numbers_of left) (numbers_of i.gone) k) ∙ ap (λ t. is_among t k) (sym all_is) ∙ e) in
      let other : (k : ℕ) (d : Session) → k ≢ n → get_or sessions' k d ≡ get_or sessions k d = λ k d q.
      ap (λ t. get_or t k d) put ∙ get_or-set_other sessions n k session d q in
      let own : (d : Session) → get_or sessions' n d ≡ session = λ d.
      ap (λ t. get_or t n d) put ∙ get_or-set_same sessions n session d low in
      record {
        gone = m ∷ i.gone;
        split = sym (append_assoc front (m ∷ []) i.gone) ∙ ap (λ t. t ++ i.gone) (sym last) ∙ i.split;
        host_is = is;
        cluster = cluster ∙ i.cluster;
        names = λ k inside. ⊎_elim
            (λ h. inl h)
            (λ (c : Contains (without n (numbers_of left)) k). inr (without_last (numbers_of front) n k (subst (λ t. Contains (without n t) k) before c)))
            (names (numbers_of left) i.names k inside);
        may = all_before (MayReturn hall first.cluster.banks (length start)) front m (subst (All (MayReturn hall first.cluster.banks (length start))) last i.may);
        apart = apart.0;
        others = λ k d inside e. dite (ℕ_discrete k n)
            (λ (q : k ≡ n).
            subst (λ j. IsParked hall host' j (get_or sessions' j d)) (sym q)
            (subst (IsParked hall host' n) (sym (own d)) parked))
            (λ q.
            let still = i.others k d inside (ap (λ t. is_among t k) before ∙ among_both (numbers_of front) n k e q) in
            subst (IsParked hall host' k) (sym (other k d q)) (stay k (get_or sessions k d) q still));
        count = ap length put ∙ length-set sessions n session ∙ i.count;
        back = nat_cases (λ j. (d : Session) (x : Member K L P l p) → j < length (m ∷ i.gone)
            → IsGone (length start) host' sessions' front d (get_or (m ∷ i.gone) j x))
            (λ d x inside. (
              apart.1,
              mine.known,
              record {
                session = own d ∙ session_is;
                known = subst (Knows session_of n (view m.caller.pass).seen) (sym seen) (record {
                  grows = joined.other.grows;
                  own = λ place. (joined.other.own_seen n (named_own m.caller mine.may)).entries place;
                });
              },
            ))
            (λ j d x inside.
            let g = i.back j d x (omega (arith, inside)) in
            let k = (get_or i.gone j x).caller.number in
            let o = outside k g.0 in (
              o.0,
              g.1,
              record {
                session = other k d o.1 ∙ g.2.session;
                known = knows_then k (view (get_or i.gone j x).caller.pass).seen (view host.pass).seen (view host'.pass).seen g.2.known (learnt k (i.others k d g.1 g.0).held);
              },
            ));
        same = λ k d e. other k d (outside k (left_out k e)).1 ∙ i.same k d e;
        idle = λ k inside e.
            knows_then k (view first.pass).seen (view host.pass).seen (view host'.pass).seen (i.idle k inside e)
            (learnt k (i.others k session inside (left_out k e)).held);
        hosts =
            let named : Holds (view host.pass) first.cluster.sessions
            = subst (Holds (view host.pass)) (i.host_is.name ∙ ap (λ (k : Cluster). k.sessions) i.cluster) i.host_is.own.named in
            knows_then first.cluster.sessions (view first.pass).seen (view host.pass).seen (view host'.pass).seen i.hosts (learnt first.cluster.sessions named);
        grows = grows_then (view first.pass).seen (view host.pass).seen (view host'.pass).seen i.grows (subst (Grows (view host.pass).seen) (sym seen) joined.moment.grows);
      }

  -- all are back
  pub all_back : (hall : Hall H (Part L P l p) Entry Start) (first : Host L P l p) (start : List Session)
      (all : List (Member K L P l p)) (host : Host L P l p) (sessions : List Session)
      → AreComing hall first start all host sessions [] → AreBack first host all start sessions
  all_back hall first start all host sessions i = record {
    count = i.count;
    back = subst (λ (xs : List (Member K L P l p)). (j : ℕ) (d : Session) (m : Member K L P l p) → j < length xs
        → IsBack host (get_or sessions (get_or xs j m).caller.number d) (get_or xs j m)) i.split (λ j d m inside. (i.back j d m inside).2);
    same = i.same;
    idle = i.idle;
    hosts = i.hosts;
    grows = i.grows;
  }
