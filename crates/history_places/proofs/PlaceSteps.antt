-- What is kept of the places goes along with the history.
use Rattle.std.proofs.Common.{◌≡◌, ℕ, List, [], ◌∷◌, ◌++◌, ap, sym, subst, ◌∙◌}
use Rattle.tx_events.specs.declared.event.Event.{Event}
use Rattle.tx_events.specs.declared.record.Counters.{Counters}
use Rattle.history_check.specs.Replays.{Replayed, with_event}
use Rattle.place_columns.specs.declared.span.Span.{Span}
use Rattle.place_columns.specs.Columns.{IsColumn, IsSpanOf, IsWhere}
use Rattle.place_columns.proofs.ColumnSteps.{column_push, column_start, span_where}
use Rattle.history_places.specs.Told.{ArePlaces, next_in, oldest_in, stop_in, xmin_in}

-- a column of one number
one : (f : List Event → ℕ) (h : List Event) (column : List ℕ) (n : ℕ) → h ≡ [] → column ≡ n ∷ [] → n ≡ f h → IsColumn f h column
one f h column n none is n_is =
    subst (λ (t : List Event). IsColumn f t column) (sym none)
    (subst (IsColumn f []) (sym (is ∙ ap (λ (k : ℕ). k ∷ []) (n_is ∙ ap f none))) (column_start f))

-- a life's start
pub places_start : (r : Replayed) (nexts oldests stops xmins : List ℕ) (a b c d : ℕ) → r.events ≡ [] → nexts ≡ a ∷ [] → oldests ≡ b ∷ [] → stops ≡ c ∷ [] → xmins ≡ d ∷ []
    → a ≡ next_in r.base r.events → b ≡ oldest_in r.base r.events → c ≡ stop_in r.base r.events → d ≡ xmin_in r.base r.events → ArePlaces r nexts oldests stops xmins
places_start r nexts oldests stops xmins a b c d none n o s x an bo cs dx = record {
  next = one (next_in r.base) r.events nexts a none n an;
  oldest = one (oldest_in r.base) r.events oldests b none o bo;
  stop = one (stop_in r.base) r.events stops c none s cs;
  xmin = one (xmin_in r.base) r.events xmins d none x dx;
}

-- one event more
pub places_push : (r r' : Replayed) (e : Event) (nexts oldests stops xmins : List ℕ) (a b c d : ℕ) → ArePlaces r nexts oldests stops xmins → r' ≡ with_event r e
    → a ≡ next_in r'.base r'.events → b ≡ oldest_in r'.base r'.events → c ≡ stop_in r'.base r'.events → d ≡ xmin_in r'.base r'.events
    → ArePlaces r' (nexts ++ a ∷ []) (oldests ++ b ∷ []) (stops ++ c ∷ []) (xmins ++ d ∷ [])
places_push r r' e nexts oldests stops xmins a b c d p is an bo cs dx =
    subst (λ (s : Replayed). ArePlaces s (nexts ++ a ∷ []) (oldests ++ b ∷ []) (stops ++ c ∷ []) (xmins ++ d ∷ [])) (sym is) (record {
      next = column_push (next_in r.base) r.events e nexts a (an ∙ ap (λ (s : Replayed). next_in s.base s.events) is) p.next;
      oldest = column_push (oldest_in r.base) r.events e oldests b (bo ∙ ap (λ (s : Replayed). oldest_in s.base s.events) is) p.oldest;
      stop = column_push (stop_in r.base) r.events e stops c (cs ∙ ap (λ (s : Replayed). stop_in s.base s.events) is) p.stop;
      xmin = column_push (xmin_in r.base) r.events e xmins d (dx ∙ ap (λ (s : Replayed). xmin_in s.base s.events) is) p.xmin;
    })

-- and so for what is written to the columns with room
pub places_after : (r r' : Replayed) (e : Event) (nexts oldests stops xmins n o s x n' o' s' x' : List ℕ) (a b c d : ℕ) → ArePlaces r nexts oldests stops xmins → r' ≡ with_event r e
    → a ≡ next_in r'.base r'.events → b ≡ oldest_in r'.base r'.events → c ≡ stop_in r'.base r'.events → d ≡ xmin_in r'.base r'.events
    → n ≡ nexts → o ≡ oldests → s ≡ stops → x ≡ xmins → n' ≡ n ++ a ∷ [] → o' ≡ o ++ b ∷ [] → s' ≡ s ++ c ∷ [] → x' ≡ x ++ d ∷ [] → ArePlaces r' n' o' s' x'
places_after r r' e nexts oldests stops xmins n o s x n' o' s' x' a b c d p is an bo cs dx n_is o_is s_is x_is n_new o_new s_new x_new =
    let all : ArePlaces r' (nexts ++ a ∷ []) (oldests ++ b ∷ []) (stops ++ c ∷ []) (xmins ++ d ∷ []) = places_push r r' e nexts oldests stops xmins a b c d p is an bo cs dx in
    record {
      next = subst (IsColumn (next_in r'.base) r'.events) (sym (n_new ∙ ap (λ (t : List ℕ). t ++ a ∷ []) n_is)) all.next;
      oldest = subst (IsColumn (oldest_in r'.base) r'.events) (sym (o_new ∙ ap (λ (t : List ℕ). t ++ b ∷ []) o_is)) all.oldest;
      stop = subst (IsColumn (stop_in r'.base) r'.events) (sym (s_new ∙ ap (λ (t : List ℕ). t ++ c ∷ []) s_is)) all.stop;
      xmin = subst (IsColumn (xmin_in r'.base) r'.events) (sym (x_new ∙ ap (λ (t : List ℕ). t ++ d ∷ []) x_is)) all.xmin;
    }

-- what a search finds
pub where_is : (f : Counters → List Event → ℕ) (r now : Replayed) (column slice : List ℕ) (number : ℕ) (span : Span) → r ≡ now → IsColumn (f r.base) r.events column → slice ≡ column → IsSpanOf slice number span → IsWhere (f now.base) now.events number span
where_is f r now column slice number span view col slice_is found =
    subst (λ (s : Replayed). IsWhere (f s.base) s.events number span) view (span_where (f r.base) r.events column number span col (subst (λ (t : List ℕ). IsSpanOf t number span) slice_is found))
