-- What is kept of the places goes along with the history.
use Rattle.std.proofs.Common.{◌≡◌, ℕ, List, [], ◌∷◌, ◌++◌, ap, sym, subst, ◌∙◌}
use Rattle.tx_events.specs.declared.multi.MultiEvent.{MultiEvent}
use Rattle.tx_events.specs.declared.record.Counters.{Counters}
use Rattle.tx_events.specs.Multis.{AreLegalMultis, InBase, MultiMayCome}
use Rattle.tx_events.proofs.PlaceLemmas.{each_place_last, each_place_none, each_place_push}
use Rattle.multi_store.specs.Generator.{Adds, Generator}
use Rattle.place_columns.specs.declared.span.Span.{Span}
use Rattle.place_columns.specs.Columns.{IsColumn, IsSpanOf, IsWhere}
use Rattle.place_columns.proofs.ColumnSteps.{column_push, column_start, span_where}
use Rattle.history_places.specs.declared.start.Start.{Start}
use Rattle.history_places.specs.declared.multis.Row.{Row}
use Rattle.history_places.specs.MultiTold.{AreMultiPlaces, IsRow, MultiReplayed, first_in, member_stop_in, next_in, oldest_in, stop_in}
use Rattle.history_places.specs.Starts.{BeginsAs, FitsBase, IsWellBegun}
use Rattle.history_places.proofs.Beginning.{as_begun}

one : (f : List MultiEvent → ℕ) (column : List ℕ) (n : ℕ) → column ≡ n ∷ [] → n ≡ f [] → IsColumn f [] column
one f column n is n_is = subst (IsColumn f []) (sym (is ∙ ap (λ (k : ℕ). k ∷ []) n_is)) (column_start f)

-- a life's start
pub multi_start : (base : Counters) (starts : List Start) (g : Generator) (row : Row) (n f o s m : List ℕ) → g ≡ record { base = base; events = [] } → FitsBase base starts → IsRow g.base g.events row
    → n ≡ row.next ∷ [] → f ≡ row.first ∷ [] → o ≡ row.oldest ∷ [] → s ≡ row.stop ∷ [] → m ≡ row.member_stop ∷ [] → AreMultiPlaces g.base starts g.events n f o s m
multi_start base starts g row n f o s m is fits row_is n_is f_is o_is s_is m_is =
    let r : IsRow base [] row = subst (λ (g : Generator). IsRow g.base g.events row) is row_is in
    subst (λ (g : Generator). AreMultiPlaces g.base starts g.events n f o s m) (sym is) (record {
      fits = fits;
      legal = each_place_none (MultiMayCome base (BeginsAs starts));
      next = one (next_in base) n row.next n_is r.next;
      first = one (first_in base) f row.first f_is r.first;
      oldest = one (oldest_in base) o row.oldest o_is r.oldest;
      stop = one (stop_in base) s row.stop s_is r.stop;
      member_stop = one (member_stop_in base) m row.member_stop m_is r.member_stop;
    })

-- one event more
push_at : (base : Counters) (starts : List Start) (h : List MultiEvent) (e : MultiEvent) (row : Row) (n f o s m : List ℕ) → AreMultiPlaces base starts h n f o s m → MultiMayCome base (BeginsAs starts) h e → IsRow base (h ++ e ∷ []) row
    → AreMultiPlaces base starts (h ++ e ∷ []) (n ++ row.next ∷ []) (f ++ row.first ∷ []) (o ++ row.oldest ∷ []) (s ++ row.stop ∷ []) (m ++ row.member_stop ∷ [])
push_at base starts h e row n f o s m p may r = record {
  fits = p.fits;
  legal = each_place_push (MultiMayCome base (BeginsAs starts)) h e p.legal may;
  next = column_push (next_in base) h e n row.next r.next p.next;
  first = column_push (first_in base) h e f row.first r.first p.first;
  oldest = column_push (oldest_in base) h e o row.oldest r.oldest p.oldest;
  stop = column_push (stop_in base) h e s row.stop r.stop p.stop;
  member_stop = column_push (member_stop_in base) h e m row.member_stop r.member_stop p.member_stop;
}

-- which event came
pub came : (g g' : Generator) (e : MultiEvent) → Adds g g' e → AreLegalMultis g'.base (InBase g'.base) g'.events → MultiMayCome g.base (InBase g.base) g.events e
came g g' e a legal =
    each_place_last (MultiMayCome g.base (InBase g.base)) g.events e
    (subst (AreLegalMultis g.base (InBase g.base)) a.events (subst (λ (b : Counters). AreLegalMultis b (InBase b) g'.events) a.base legal))

-- and what is written to the columns with room
pub multi_after : (g g' : Generator) (starts : List Start) (first : ℕ) (e : MultiEvent) (row : Row) (n f o s m n1 f1 o1 s1 m1 n2 f2 o2 s2 m2 : List ℕ) → AreMultiPlaces g.base starts g.events n f o s m → first ≡ g.base.multi → IsWellBegun first starts e → Adds g g' e
    → IsRow g'.base g'.events row → AreLegalMultis g'.base (InBase g'.base) g'.events → n1 ≡ n → f1 ≡ f → o1 ≡ o → s1 ≡ s → m1 ≡ m
    → n2 ≡ n1 ++ row.next ∷ [] → f2 ≡ f1 ++ row.first ∷ [] → o2 ≡ o1 ++ row.oldest ∷ [] → s2 ≡ s1 ++ row.stop ∷ [] → m2 ≡ m1 ++ row.member_stop ∷ []
    → AreMultiPlaces g'.base starts g'.events n2 f2 o2 s2 m2
multi_after g g' starts first e row n f o s m n1 f1 o1 s1 m1 n2 f2 o2 s2 m2 p first_is well a row_is legal en ef eo es em fn ff fo fs fm =
    let may : MultiMayCome g.base (BeginsAs starts) g.events e = as_begun g.base starts g.events e (subst (λ k. IsWellBegun k starts e) first_is well) (came g g' e a legal) in
    let r : IsRow g.base (g.events ++ e ∷ []) row = subst (λ (h : List MultiEvent). IsRow g.base h row) a.events (subst (λ (b : Counters). IsRow b g'.events row) a.base row_is) in
    let all = push_at g.base starts g.events e row n f o s m p may r in
    let there : AreMultiPlaces g'.base starts g'.events (n ++ row.next ∷ []) (f ++ row.first ∷ []) (o ++ row.oldest ∷ []) (s ++ row.stop ∷ []) (m ++ row.member_stop ∷ []) =
    subst (λ (b : Counters). AreMultiPlaces b starts g'.events (n ++ row.next ∷ []) (f ++ row.first ∷ []) (o ++ row.oldest ∷ []) (s ++ row.stop ∷ []) (m ++ row.member_stop ∷ [])) (sym a.base)
    (subst (λ (h : List MultiEvent). AreMultiPlaces g.base starts h (n ++ row.next ∷ []) (f ++ row.first ∷ []) (o ++ row.oldest ∷ []) (s ++ row.stop ∷ []) (m ++ row.member_stop ∷ [])) (sym a.events) all) in
    record {
      fits = there.fits;
      legal = there.legal;
      next = subst (IsColumn (next_in g'.base) g'.events) (sym (fn ∙ ap (λ (t : List ℕ). t ++ row.next ∷ []) en)) there.next;
      first = subst (IsColumn (first_in g'.base) g'.events) (sym (ff ∙ ap (λ (t : List ℕ). t ++ row.first ∷ []) ef)) there.first;
      oldest = subst (IsColumn (oldest_in g'.base) g'.events) (sym (fo ∙ ap (λ (t : List ℕ). t ++ row.oldest ∷ []) eo)) there.oldest;
      stop = subst (IsColumn (stop_in g'.base) g'.events) (sym (fs ∙ ap (λ (t : List ℕ). t ++ row.stop ∷ []) es)) there.stop;
      member_stop = subst (IsColumn (member_stop_in g'.base) g'.events) (sym (fm ∙ ap (λ (t : List ℕ). t ++ row.member_stop ∷ []) em)) there.member_stop;
    }

-- what a search finds
pub where_is : (f : Counters → List MultiEvent → ℕ) (g : Generator) (starts : List Start) (now : MultiReplayed) (column slice : List ℕ) (number : ℕ) (span : Span) → record { base = g.base; starts = starts; events = g.events } ≡ now → IsColumn (f g.base) g.events column → slice ≡ column → IsSpanOf slice number span
    → IsWhere (f now.base) now.events number span
where_is f g starts now column slice number span view col slice_is found =
    subst (λ (s : MultiReplayed). IsWhere (f s.base) s.events number span) view (span_where (f g.base) g.events column number span col (subst (λ (t : List ℕ). IsSpanOf t number span) slice_is found))
