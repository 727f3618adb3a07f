-- Sessions that are let in, one after another, and taken back, the last one first.
use Rattle.std.proofs.Common.{◌≡◌, ◌==◌, ℕ, suc, ◌+◌, ◌<◌, ◌≤◌, Bool, true, not, Contains, List, [], ◌∷◌, ◌++◌, refl, sym, ap, subst, ◌∙◌, arith, ⊎_elim, inl, inr, get_or, length, length-append, map, Some, take, drop, append-nil}
use Rattle.std.specs.List.{All, filter}
use Rattle.std.proofs.lemmas.Bool.{false≢true}
use Rattle.std.proofs.lemmas.List.{drop_all, map-append, take_all}
use Rattle.std.proofs.lemmas.List.Elements.{All-contains, All-pop, All-push, All-contains_itself, All-filter, Contains-append_cases, Contains-append_left, Contains-append_right, Contains-push_cases, filter_passes}
use Rattle.tx_events.proofs.ListSteps.{eqb-refl}
use Rattle.disk_core.specs.declared.log_disk.LogDisk as logs
use Rattle.disk_core.specs.declared.page_disk.PageDisk as disks
use Rattle.hall.specs.declared.hall.Hall.{Hall}
use Rattle.tx_core.specs.declared.entry.Entry.{Entry}
use Rattle.tx_core.specs.declared.entry.Start.{Start}
use Rattle.engine_parts.specs.declared.part.Part.{Part}
use Rattle.engine_host.specs.declared.host.Host.{Host}
use Rattle.engine_parts.specs.declared.session.Session.{Session}
use Rattle.engine_parts.specs.Calls.{MayRun}
use Rattle.engine_host.specs.declared.cluster.Cluster.{Cluster}
use Rattle.engine_host.specs.Hosts.{HoldsAllBut, IsHost, IsNewSession, IsParked, OthersStayParked, without}
use Rattle.engine_bench.specs.declared.crew.Member.{Member}
use Rattle.engine_bench.specs.Crews.{AllWent, HaveGoneOn, MayWork, numbers_of}

-- what a slice of a whole vector wrote back
pub written_back : {X : Type 0} (n : ℕ) (xs ys : List X) → length ys ≡ length xs → n ≡ length xs → take n (ys ++ drop (length ys) xs) ≡ ys
written_back n xs ys e l =
    ap (λ t. take n (ys ++ t)) (drop_all (length ys) xs (omega (arith, e)))
    ∙ ap (take n) (append-nil ys)
    ∙ take_all n ys (omega (arith, e, l))

-- a function of what stands at each place
same_map : {X Y : Type 0} (f : X → Y) (xs ys : List X) → length ys ≡ length xs
    → ((i : ℕ) (d : X) → i < length xs → f (get_or ys i d) ≡ f (get_or xs i d)) → map f ys ≡ map f xs
same_map f [] [] e g = refl
same_map f [] (y ∷ ys) e g = absurd (omega (arith, e))
same_map f (x ∷ xs) [] e g = absurd (omega (arith, e))
same_map f (x ∷ xs) (y ∷ ys) e g =
    ap (λ z. z ∷ map f ys) (g 0 x (omega arith)) ∙ ap (λ t. f x ∷ t) (same_map f xs ys (omega (arith, e)) (λ i d l. g (suc i) d (omega (arith, l))))

moved : (xs : List ℕ) (n k : ℕ) → Contains (n ∷ xs) k → Contains (xs ++ n ∷ []) k
moved xs n k c = ⊎_elim (λ a. Contains-append_right xs (n ∷ []) k a) (λ b. Contains-append_left xs (n ∷ []) k b) (Contains-append_cases (n ∷ []) xs k c)

-- those but the last
without_last : (xs : List ℕ) (n k : ℕ) → Contains (without n (xs ++ n ∷ [])) k → Contains xs k
without_last xs n k c =
    let test : ℕ → Bool = λ j. not (j == n) in
    let ys = xs ++ n ∷ [] in
    let among : Contains ys k = All-contains (Contains ys) (filter test ys) k (All-filter test (Contains ys) ys (All-contains_itself ys)) c in
    let other : test k ≡ true = All-contains (λ j. test j ≡ true) (filter test ys) k (filter_passes test ys) c in
    ⊎_elim (λ found. found)
    (λ (e : n ≡ k). absurd (false≢true (sym (ap (λ b. not b) (eqb-refl n)) ∙ subst (λ j. not (j == n) ≡ true) (sym e) other)))
    (Contains-push_cases xs n k among)

module _ {H L P : Type 0} {l : logs.Ghosts L} {p : disks.Ghosts P} (hall : Hall H (Part L P l p) Entry Start) (banks : ℕ) where
  all_may : (old new : List (Member L P l p)) → AllWent hall banks old new → All (MayWork hall banks) new
  all_may old new went k d low = (went.each k d (let e = went.count in omega (arith, e, low))).may

  same_numbers : (old new : List (Member L P l p)) → AllWent hall banks old new → numbers_of new ≡ numbers_of old
  same_numbers old new went = same_map (λ m. m.caller.number) old new went.count (λ i d low. (went.each i d low).number)

  -- they have gone on, and go on by one more plan
  pub gone_further : (a b c : List (Member L P l p)) → HaveGoneOn hall banks a b → AllWent hall banks b c → HaveGoneOn hall banks a c
  gone_further a b c on went = record { each = all_may b c went; numbers = same_numbers b c went ∙ on.numbers }

module _ {L P : Type 0} {l : logs.Ghosts L} {p : disks.Ghosts P} where
  -- one more is let in
  pub holds_but_more : (host : Host L P l p) (members : List (Member L P l p)) (m : Member L P l p)
      → HoldsAllBut host (m.caller.number ∷ numbers_of members) → HoldsAllBut host (numbers_of (members ++ m ∷ []))
  holds_but_more host members m holds = λ n low. ⊎_elim (λ h. inl h)
      (λ c. inr (subst (λ t. Contains t n) (sym (map-append (λ x. x.caller.number) members (m ∷ []))) (moved (numbers_of members) m.caller.number n c)))
      (holds n low)

  -- the last one is taken back
  pub holds_but_fewer : (old new : Host L P l p) (left front : List (Member L P l p)) (m : Member L P l p)
      → left ≡ front ++ m ∷ [] → HoldsAllBut old (numbers_of left)
      → ((away : List ℕ) → HoldsAllBut old away → HoldsAllBut new (without m.caller.number away))
      → HoldsAllBut new (numbers_of front)
  holds_but_fewer old new left front m last holds joined = λ n low.
      let before : numbers_of left ≡ numbers_of front ++ m.caller.number ∷ [] =
      ap numbers_of last ∙ map-append (λ (x : Member L P l p). x.caller.number) front (m ∷ []) in
      ⊎_elim (λ h. inl h)
      (λ c. inr (without_last (numbers_of front) m.caller.number n (subst (λ t. Contains (without m.caller.number t) n) before c)))
      (joined (numbers_of left) holds n low)

pub last_of : {X : Type 0} (F : X → Type 0) (xs : List X) (x : X) → All F (xs ++ x ∷ []) → F x
last_of F xs x a = (All-pop F (xs ++ x ∷ []) xs (Some x) refl a).1

front_of : {X : Type 0} (F : X → Type 0) (xs : List X) (x : X) → All F (xs ++ x ∷ []) → All F xs
front_of F xs x a = (All-pop F (xs ++ x ∷ []) xs (Some x) refl a).0

module _ {H L P : Type 0} {l : logs.Ghosts L} {p : disks.Ghosts P} where
  -- the first so many sessions are let in
  pub record AreIn (hall : Hall H (Part L P l p) Entry Start) (first : Host L P l p) (count : ℕ) (host : Host L P l p)
      (members : List (Member L P l p)) : Type 0 where
    pub is : IsHost hall host
    pub cluster : host.cluster ≡ first.cluster
    pub many : length members ≡ count
    pub names : HoldsAllBut host (numbers_of members)
    pub parked : (n : ℕ) (s : Session) → count ≤ n → n < first.cluster.sessions → IsNewSession s → IsParked hall host n s
    pub each : All (MayWork hall host.cluster.banks) members

  pub none_in : (hall : Hall H (Part L P l p) Entry Start) (host : Host L P l p) (members : List (Member L P l p))
      → IsHost hall host → HoldsAllBut host []
      → ((n : ℕ) (s : Session) → n < host.cluster.sessions → IsNewSession s → IsParked hall host n s) → members ≡ []
      → AreIn hall host 0 host members
  none_in hall host members is names parked none = record {
    is = is;
    cluster = refl;
    many = ap length none;
    names = subst (λ (ms : List (Member L P l p)). HoldsAllBut host (numbers_of ms)) (sym none) names;
    parked = λ n s low high new. parked n s high new;
    each = λ k d low. absurd (let e = ap length none in omega (arith, low, e));
  }

  pub one_more_in : (hall : Hall H (Part L P l p) Entry Start) (first : Host L P l p) (count : ℕ) (host host' : Host L P l p)
      (members : List (Member L P l p)) (m : Member L P l p) → AreIn hall first count host members
      → IsHost hall host' → host'.cluster ≡ host.cluster
      → ((away : List ℕ) → HoldsAllBut host away → HoldsAllBut host' (count ∷ away)) → OthersStayParked hall count host host'
      → m.caller.number ≡ count → MayRun hall host.cluster.banks m.caller
      → AreIn hall first (count + 1) host' (members ++ m ∷ [])
  one_more_in hall first count host host' members m i is cluster names stay number may = record {
    is = is;
    cluster = cluster ∙ i.cluster;
    many = length-append members (m ∷ []) ∙ ap (λ k. k + 1) i.many;
    names = holds_but_more host' members m (subst (λ k. HoldsAllBut host' (k ∷ numbers_of members)) (sym number) (names (numbers_of members) i.names));
    parked = λ n s low high new. stay n s (λ e. omega (arith, e, low)) (i.parked n s (omega (arith, low)) high new);
    each = All-push (MayWork hall host'.cluster.banks) members m
        (subst (λ (c : Cluster). All (MayWork hall c.banks) members) (sym cluster) i.each)
        (subst (λ (c : Cluster). MayRun hall c.banks m.caller) (sym cluster) may);
  }

  -- these are still to be taken back
  pub record AreComing (hall : Hall H (Part L P l p) Entry Start) (first host : Host L P l p) (left : List (Member L P l p))
      : Type 0 where
    pub is : IsHost hall host
    pub cluster : host.cluster ≡ first.cluster
    pub names : HoldsAllBut host (numbers_of left)
    pub each : All (MayWork hall first.cluster.banks) left

  pub one_back : (hall : Hall H (Part L P l p) Entry Start) (first host host' : Host L P l p)
      (left front : List (Member L P l p)) (m : Member L P l p) → left ≡ front ++ m ∷ []
      → AreComing hall first host left → IsHost hall host' → host'.cluster ≡ host.cluster
      → ((away : List ℕ) → HoldsAllBut host away → HoldsAllBut host' (without m.caller.number away))
      → AreComing hall first host' front
  one_back hall first host host' left front m last i is cluster joined = record {
    is = is;
    cluster = cluster ∙ i.cluster;
    names = holds_but_fewer host host' left front m last i.names joined;
    each = front_of (MayWork hall first.cluster.banks) front m (subst (All (MayWork hall first.cluster.banks)) last i.each);
  }

  pub last_may : (hall : Hall H (Part L P l p) Entry Start) (first host : Host L P l p) (left front : List (Member L P l p))
      (m : Member L P l p) → left ≡ front ++ m ∷ [] → AreComing hall first host left → MayRun hall host.cluster.banks m.caller
  last_may hall first host left front m last i =
      subst (λ (c : Cluster). MayRun hall c.banks m.caller) (sym i.cluster)
      (last_of (MayWork hall first.cluster.banks) front m (subst (All (MayWork hall first.cluster.banks)) last i.each))
