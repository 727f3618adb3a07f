-- Events and multixact events are read again.
use Rattle.std.proofs.Common.{rules, ◌≡◌, ℕ, ◌-◌, ◌^◌, ◌<◌, ◌≤◌, List, [], ◌∷◌, ◌++◌, Some, refl, length, take, drop}
use Rattle.std.specs.List.{AllByRecursion}
use Rattle.std.specs.Fmt.{decimal}
use Rattle.tx_events.specs.declared.event.By.{By}
use Rattle.tx_events.specs.declared.event.Event.{Event}
use Rattle.tx_events.specs.declared.event.Event.TheVariants as events
use Rattle.tx_events.specs.declared.multi.Member.{Member}
use Rattle.tx_events.specs.declared.multi.MultiEvent.{MultiEvent}
use Rattle.tx_events.specs.declared.multi.MultiEvent.TheVariants as multis
use Rattle.tx_events.specs.Events.{by_of}
use Rattle.report_text.specs.Words.{line_text}
use Rattle.report_text.specs.MemberText.{member_words}
use Rattle.tx_events.specs.Multis.{multi_by}
use Rattle.report_text.specs.EventText.{event_word, event_words, event_rest, by_words, multi_event_word, multi_event_words, multi_event_rest}
use Rattle.report_words.specs.Words.{behind, AreWords}
use Rattle.report_words.specs.Fits.{FitsMember, AreNames, FitsEvent, FitsMultiEvent}
use Rattle.report_words.proofs.Again.{number_at_again, number_word, id_again, by_again, by_are_words, line_gives, name_word}
use Rattle.report_words.proofs.Snaps.{multi_again}
use Rattle.report_words.proofs.AgainMembers.{members_again, members_are_words}
use Rattle.report_lines.specs.Events.{id_event, event_rest_at, event_at, gen_at, multi_rest_at, multi_event_at}

pub event_again : (names : List (List ℕ)) (e : Event) → AreNames names → FitsEvent names e → event_at names (event_words names e) ≡ Some e
unfolding event_at event_rest_at id_event event_word
event_again names (events.Id by id) n f = rw (by_again names by _ n f.0, number_at_again id [] f.1.0, id_again id f.1) refl
event_again names (events.Sub by parent id) n f = rw (by_again names by _ n f.0, number_at_again parent _ f.1.0, id_again parent f.1, number_at_again id [] f.2.0, id_again id f.2) refl
event_again names (events.Undo by id) n f = rw (by_again names by _ n f.0, number_at_again id [] f.1.0, id_again id f.1) refl
event_again names (events.Commit by id) n f = rw (by_again names by _ n f.0, number_at_again id [] f.1.0, id_again id f.1) refl
event_again names (events.Abort by id) n f = rw (by_again names by _ n f.0, number_at_again id [] f.1.0, id_again id f.1) refl
event_again names (events.Snap name by) n f = rw (by_again names by _ n f.0, f.1) refl
event_again names (events.SnapDrop name by) n f = rw (by_again names by _ n f.0, f.1) refl
event_again names (events.Oldest by id) n f = rw (by_again names by _ n f.0, number_at_again id [] f.1.0, id_again id f.1) refl
event_again names (events.Ask by id) n f = rw (by_again names by _ n f.0, number_at_again id [] f.1.0, id_again id f.1) refl

pub event_are_words : (names : List (List ℕ)) (e : Event) → AreNames names → FitsEvent names e → AreWords (event_words names e)
unfolding event_word
event_are_words names (events.Id by id) n f = (search rules, by_are_words names by (decimal id ∷ []) n f.0 (number_word id f.1.0, tt))
event_are_words names (events.Sub by parent id) n f = (search rules, by_are_words names by (decimal parent ∷ decimal id ∷ []) n f.0 (number_word parent f.1.0, (number_word id f.2.0, tt)))
event_are_words names (events.Undo by id) n f = (search rules, by_are_words names by (decimal id ∷ []) n f.0 (number_word id f.1.0, tt))
event_are_words names (events.Commit by id) n f = (search rules, by_are_words names by (decimal id ∷ []) n f.0 (number_word id f.1.0, tt))
event_are_words names (events.Abort by id) n f = (search rules, by_are_words names by (decimal id ∷ []) n f.0 (number_word id f.1.0, tt))
event_are_words names (events.Snap name by) n f = (search rules, by_are_words names by (name ∷ []) n f.0 (name_word name f.1, tt))
event_are_words names (events.SnapDrop name by) n f = (search rules, by_are_words names by (name ∷ []) n f.0 (name_word name f.1, tt))
event_are_words names (events.Oldest by id) n f = (search rules, by_are_words names by (decimal id ∷ []) n f.0 (number_word id f.1.0, tt))
event_are_words names (events.Ask by id) n f = (search rules, by_are_words names by (decimal id ∷ []) n f.0 (number_word id f.1.0, tt))

-- a line of an event gives the event
pub event_line_again : (names : List (List ℕ)) (bytes : List ℕ) (e : Event) → AreNames names → FitsEvent names e → 1 ≤ length bytes → drop 1 bytes ≡ line_text (event_words names e) → event_at names (behind (take (length bytes - 1) bytes)) ≡ Some e
event_line_again names bytes e n f l t = line_gives (event_at names) bytes (event_word e) (by_words names (by_of e) ++ event_rest e) (Some e) l (event_again names e n f) (event_are_words names e n f) t

-- ---- multixact events

gen_again : (by : By) (multi offset : ℕ) (members : List Member) → offset < 2 ^ 64 → AllByRecursion FitsMember members → gen_at by multi (decimal offset ∷ member_words members) ≡ Some (multis.Gen by multi offset members)
unfolding gen_at
gen_again by multi offset members l a = rw (number_at_again offset _ l, members_again members a) refl

pub multi_event_again : (names : List (List ℕ)) (e : MultiEvent) → AreNames names → FitsMultiEvent names e → multi_event_at names (multi_event_words names e) ≡ Some e
unfolding multi_event_at multi_rest_at multi_event_word
multi_event_again names (multis.Gen by multi offset members) n f = rw (by_again names by _ n f.0, number_at_again multi _ f.1.0, multi_again multi f.1) (gen_again by multi offset members f.2 f.3)
multi_event_again names (multis.Hold by multi) n f = rw (by_again names by _ n f.0, number_at_again multi [] f.1.0, multi_again multi f.1) refl
multi_event_again names (multis.Unhold by multi) n f = rw (by_again names by _ n f.0, number_at_again multi [] f.1.0, multi_again multi f.1) refl
multi_event_again names (multis.Raise by multi offset) n f = rw (by_again names by _ n f.0, number_at_again multi _ f.1.0, multi_again multi f.1, number_at_again offset [] f.2) refl

pub multi_event_are_words : (names : List (List ℕ)) (e : MultiEvent) → AreNames names → FitsMultiEvent names e → AreWords (multi_event_words names e)
unfolding multi_event_word
multi_event_are_words names (multis.Gen by multi offset members) n f = (search rules, by_are_words names by (decimal multi ∷ decimal offset ∷ member_words members) n f.0 (number_word multi f.1.0, (number_word offset f.2, members_are_words members f.3)))
multi_event_are_words names (multis.Hold by multi) n f = (search rules, by_are_words names by (decimal multi ∷ []) n f.0 (number_word multi f.1.0, tt))
multi_event_are_words names (multis.Unhold by multi) n f = (search rules, by_are_words names by (decimal multi ∷ []) n f.0 (number_word multi f.1.0, tt))
multi_event_are_words names (multis.Raise by multi offset) n f = (search rules, by_are_words names by (decimal multi ∷ decimal offset ∷ []) n f.0 (number_word multi f.1.0, (number_word offset f.2, tt)))

pub multi_line_again : (names : List (List ℕ)) (bytes : List ℕ) (e : MultiEvent) → AreNames names → 1 ≤ length bytes → FitsMultiEvent names e → drop 1 bytes ≡ line_text (multi_event_words names e) → multi_event_at names (behind (take (length bytes - 1) bytes)) ≡ Some e
multi_line_again names bytes e n s f t = line_gives (multi_event_at names) bytes (multi_event_word e) (by_words names (multi_by e) ++ multi_event_rest e) (Some e) s (multi_event_again names e n f) (multi_event_are_words names e n f) t
