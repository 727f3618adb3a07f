-- The family of an id of a legal history.
use Rattle.std.proofs.Common.{◌≡◌, ℕ, ◌<◌, ◌≤◌, ◌⊎◌, List, [], ◌∷◌, ◌++◌, Some, sym, ap, subst, ◌∙◌, inl, inr, ⊎_elim, arith}
use Rattle.tx_events.specs.declared.event.By.{By}
use Rattle.tx_events.specs.declared.event.Event.{Event}
use Rattle.tx_events.specs.declared.record.Counters.{Counters}
use Rattle.tx_events.specs.Events.{given, given_to, given_by}
use Rattle.tx_events.specs.Families.{lineage, top}
use Rattle.tx_events.specs.Running.{is_open, open_ids}
use Rattle.tx_events.specs.History.{IsLegal, MayCome}
use Rattle.tx_events.proofs.Membership.{Has, contains_has, has_filter, by_end}
use Rattle.tx_events.proofs.Lineages.{lineage_push, lineage_sub, top_in, family_kept, top_line, top_of_sub}
use Rattle.tx_events.proofs.GivenIds.{legal_front, legal_last, fresh, may_give, given_below, lineage_fresh, given_to_given, given_push_cases, given_stays}
use Rattle.tx_events.specs.declared.event.Event.TheVariants as events

-- an id of the history with one event more
pub record IsOld (h : List Event) (e : Event) (x : ℕ) : Type 0 where
  pub given : Has (given h) x
  pub line : lineage (h ++ e ∷ []) x ≡ lineage h x

pub record IsNewTop (h : List Event) (e : Event) (x : ℕ) : Type 0 where
  pub by : By
  pub is : e ≡ events.Id by x
  pub line : lineage (h ++ e ∷ []) x ≡ x ∷ []

pub record IsNewSub (h : List Event) (e : Event) (x : ℕ) : Type 0 where
  pub by : By
  pub parent : ℕ
  pub is : e ≡ events.Sub by parent x
  pub opened : Has (open_ids by.session h) parent
  pub given : Has (given h) parent
  pub line : lineage (h ++ e ∷ []) x ≡ x ∷ lineage h parent

new_cases : (base : Counters) (h : List Event) (e : Event) (x : ℕ) → IsLegal base h → MayCome base h e → given_by e ≡ Some x → IsNewTop h e x ⊎ IsNewSub h e x
new_cases base h (events.Id by id) x legal may g =
    let q : id ≡ x = cc in
    let n = fresh base h (events.Id by id) x legal may g in
    inl (record { by = by; is = ap (events.Id by) q; line = family_kept h (events.Id by id) x tt ∙ lineage_fresh base h legal x n })
new_cases base h (events.Sub by parent id) x legal may g =
    let q : id ≡ x = cc in
    let o : Has (open_ids by.session h) parent = contains_has (open_ids by.session h) parent may.1 in
    inr (record {
      by = by;
      parent = parent;
      is = ap (events.Sub by parent) q;
      opened = o;
      given = given_to_given by.session h parent (has_filter (is_open h) (given_to by.session h) parent o).0;
      line = ap (λ z. lineage (h ++ events.Sub by parent z ∷ []) x) q ∙ lineage_sub h by parent x;
    })
new_cases base h e x legal may g = absurd cc

pub given_cases : (base : Counters) (h : List Event) (e : Event) (x : ℕ) → IsLegal base h → MayCome base h e → Has (given (h ++ e ∷ [])) x → IsOld h e x ⊎ IsNewTop h e x ⊎ IsNewSub h e x
given_cases base h e x legal may k =
    let old : Has (given h) x → IsOld h e x = λ a. record { given = a; line = lineage_push h e x (λ g. fresh base h e x legal may g a) } in
    ⊎_elim (λ a. inl (old a)) (λ a. inr (new_cases base h e x legal may a)) (given_push_cases h e x k)

-- what is known of the family of an id that was given
pub record Family (h : List Event) (x : ℕ) : Type 0 where
  pub within : (y : ℕ) → Has (lineage h x) y → Has (given h) y
  pub below : (y : ℕ) → Has (lineage h x) y → y ≤ x
  pub root : lineage h (top h x) ≡ top h x ∷ []
  pub tops : (y : ℕ) → Has (lineage h x) y → top h y ≡ top h x

family_old : (base : Counters) (h : List Event) (e : Event) (x : ℕ) → IsLegal base h → MayCome base h e → Family h x → lineage (h ++ e ∷ []) x ≡ lineage h x → Family (h ++ e ∷ []) x
family_old base h e x legal may f same =
    let here : (y : ℕ) → Has (lineage (h ++ e ∷ []) x) y → Has (lineage h x) y = λ y k. subst (λ t. Has t y) same k in
    let line : (y : ℕ) → Has (given h) y → lineage (h ++ e ∷ []) y ≡ lineage h y = λ y k. lineage_push h e y (λ g. fresh base h e y legal may g k) in
    let tops_same : top (h ++ e ∷ []) x ≡ top h x = ap (λ (t : List ℕ). top_line t x) same in
    record {
      within = λ y k. given_stays h e y (f.within y (here y k));
      below = λ y k. f.below y (here y k);
      root = ap (lineage (h ++ e ∷ [])) tops_same ∙ line (top h x) (f.within (top h x) (top_in h x)) ∙ f.root ∙ ap (λ z. z ∷ []) (sym tops_same);
      tops = λ y k. ap (λ (t : List ℕ). top_line t y) (line y (f.within y (here y k))) ∙ f.tops y (here y k) ∙ sym tops_same;
    }

pub family : (base : Counters) (h : List Event) → IsLegal base h → (x : ℕ) → Has (given h) x → Family h x
family base = by_end (λ h. IsLegal base h → (x : ℕ) → Has (given h) x → Family h x)
    (λ legal x k. absurd k)
    (λ h e before legal x k.
    let front = legal_front base h e legal in let may = legal_last base h e legal in
    ⊎_elim
    (λ (o : IsOld h e x). family_old base h e x front may (before front x o.given) o.line)
    (λ rest. ⊎_elim
    (λ (t : IsNewTop h e x).
    let top_same : top (h ++ e ∷ []) x ≡ x = ap (λ (l : List ℕ). top_line l x) t.line in
    let only : (y : ℕ) → Has (lineage (h ++ e ∷ []) x) y → x ≡ y = λ y j. ⊎_elim (λ q. q) (λ z. absurd z) (subst (λ l. Has l y) t.line j) in
    record {
      within = λ y j. subst (λ z. Has (given (h ++ e ∷ [])) z) (only y j) k;
      below = λ y j. let q = only y j in omega arith;
      root = ap (lineage (h ++ e ∷ [])) top_same ∙ t.line ∙ ap (λ z. z ∷ []) (sym top_same);
      tops = λ y j. ap (top (h ++ e ∷ [])) (sym (only y j));
    })
    (λ (s : IsNewSub h e x).
    let f = before front s.parent s.given in
    let g = family_old base h e s.parent front may f (lineage_push h e s.parent (λ z. fresh base h e s.parent front may z s.given)) in
    let line : lineage (h ++ e ∷ []) s.parent ≡ lineage h s.parent = lineage_push h e s.parent (λ z. fresh base h e s.parent front may z s.given) in
    let top_same : top (h ++ e ∷ []) x ≡ top (h ++ e ∷ []) s.parent = ap (λ (l : List ℕ). top_line l x) s.line ∙ top_of_sub h s.parent x ∙ sym (ap (λ (l : List ℕ). top_line l s.parent) line) in
    let less : s.parent < x = let a = given_below base h front s.parent s.given in let b = may_give base h e x may (ap given_by s.is) in omega arith in
    let up : (y : ℕ) → Has (lineage h s.parent) y → Has (lineage (h ++ e ∷ []) s.parent) y = λ y j. subst (λ l. Has l y) (sym line) j in
    record {
      within = λ y j. ⊎_elim (λ (q : x ≡ y). subst (λ z. Has (given (h ++ e ∷ [])) z) q k) (λ i. g.within y (up y i)) (subst (λ l. Has l y) s.line j);
      below = λ y j. ⊎_elim (λ (q : x ≡ y). omega arith) (λ i. let a = g.below y (up y i) in omega arith) (subst (λ l. Has l y) s.line j);
      root = ap (lineage (h ++ e ∷ [])) top_same ∙ g.root ∙ ap (λ z. z ∷ []) (sym top_same);
      tops = λ y j. ⊎_elim (λ (q : x ≡ y). ap (top (h ++ e ∷ [])) (sym q)) (λ i. g.tops y (up y i) ∙ sym top_same) (subst (λ l. Has l y) s.line j);
    })
    rest)
    (given_cases base h e x front may k))
