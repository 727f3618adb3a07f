-- The published oldest id is read, and published by whoever is inside the ProcArray's lock.
use Rattle.std.proofs.Common.{◌≡◌, ℕ, ◌+◌, ◌*◌, ◌≤◌, ◌<◌, ◌⊎◌, ⊎_elim, List, [], append-nil, ◌∷◌, ◌++◌, Contains, false, true, length, length-set, ltb, inl, inr, refl, sym, ap, subst, ◌∙◌, arith}
use Rattle.std.proofs.lemmas.Bool.{eq-eqb, lt-ltb, le-ltb}
use Rattle.std.proofs.lemmas.List.Elements.{Contains-push, filter_map-append}
use Rattle.std.specs.List.{filter}
use Rattle.hall.specs.declared.writer.Writer.TheVariants.{Lock}
use Rattle.hall.specs.declared.view.Stage.TheVariants.{Free, Inside}
use Rattle.hall.specs.Calls.{Loaded}
use Rattle.hall.specs.Rule.{Holds}
use Rattle.hall.specs.Told.{published}
use Rattle.notes.specs.Lists.{Knows, add, at, own}
use Rattle.notes.proofs.Growing.{at_else, at_here, begins_same}
use Rattle.tx_events.specs.declared.event.By.{By}
use Rattle.tx_events.specs.Events.{is_of}
use Rattle.tx_events.specs.Horizon.{oldest_id}
use Rattle.tx_events.specs.Ids.{IsXidNumber}
use Rattle.tx_events.proofs.Membership.{has_contains}
use Rattle.proc_table.specs.Table.{Table, oldest_of}
use Rattle.tx_core.specs.declared.entry.Entry.{Entry}
use Rattle.tx_core.specs.declared.entry.Kind.{Kind}
use Rattle.tx_core.specs.declared.entry.Kind.TheVariants as kinds
use Rattle.tx_core.specs.declared.entry.Start.{Start}
use Rattle.tx_core.specs.EngineInvariant.{EngineInvariant}
use Rattle.tx_core.specs.Entries.{events_in, history, last_from, session_of}
use Rattle.tx_core.specs.Locks.{oldest_word, proc_lock}
use Rattle.tx_core.specs.PostsFollow.{IsShown, posted_in, posts}
use Rattle.tx_core.specs.ProgramOrder.{IsInTurn}
use Rattle.tx_core.proofs.Posting.{oldest_post_law}
use Rattle.tx_core.proofs.OwnMultis.{own_multis_stay}
use Rattle.tx_core.proofs.Shown.{last_among, oldest_shown}
use Rattle.tx_core.proofs.Stepping.{own_asks}
use Rattle.tx_core.specs.Consequences.{IsShownBehind}
use Rattle.engine_parts.specs.declared.session.Session.{Session}
use Rattle.engine_parts.specs.Adding.{Adds, AddsNothing}
use Rattle.engine_parts.specs.Holds.{Enters, EntersProc, Knowledge, Learns, Leaves, Publishes, post_of, shown_oldest}
use Rattle.engine_parts.specs.Law.{MayKeep, number_of_word, writer_of}
use Rattle.engine_parts.specs.Sessions.{IsAt, by_at}
use Rattle.engine_parts.specs.Stand.{ProcStands}
use Rattle.engine_parts.specs.Steps.{WentOn}
use Rattle.engine_parts.proofs.Adding.{section_added}
use Rattle.engine_parts.proofs.Going.{at_on, own_events}
use Rattle.engine_parts.proofs.Leaving.{grows_then, history_same, ready_quiet}
use Rattle.engine_parts.proofs.Stepping.{went_quiet}

-- ---- what is learned

pub learns_self : (v : Knowledge) → Learns v v
learns_self v = record { knows = record { grows = record { begins = λ q. begins_same (at v.seen q) }; own = λ q. refl }; long = refl; name = refl; holds = refl }

pub learns_then : (u v w : Knowledge) → Learns u v → Learns v w → Learns u w
learns_then u v w f g =
    let more : Knows session_of u.name v.seen w.seen = subst (λ z. Knows session_of z v.seen w.seen) f.name g.knows in record {
      knows = record { grows = grows_then u.seen v.seen w.seen f.knows.grows more.grows; own = λ q. more.own q ∙ f.knows.own q };
      long = g.long ∙ f.long;
      name = g.name ∙ f.name;
      holds = g.holds ∙ f.holds;
    }

-- ---- the word

pub word_shows : (start : Start) (q : ℕ) (es : List Entry) → q ≡ oldest_word start → number_of_word start q es ≡ last_from start.base.oldest (posts es)
word_shows start q es is = rw (eq-eqb q (oldest_word start) is) refl

pub word_writer : (start : Start) (q : ℕ) → q ≡ oldest_word start → writer_of start q ≡ Lock proc_lock
word_writer start q is =
    let behind : ltb q (oldest_word start) ≡ false = le-ltb q (oldest_word start) (omega arith) in
    let before : ltb q (5 + 4 * start.banks) ≡ true = lt-ltb q (5 + 4 * start.banks) (omega arith) in
    rw (behind, before) refl

pub proc_writer : (start : Start) → writer_of start proc_lock ≡ Lock proc_lock
proc_writer start = rw (lt-ltb proc_lock (oldest_word start) (omega arith)) refl

-- a word was loaded
module _ (start : Start) (q : ℕ) (v w : Knowledge) (x : ℕ) (l : Loaded session_of writer_of number_of_word EngineInvariant start q v x w) where
  lists_are : l.lists ≡ w.seen
  lists_are = sym (ap (λ (z : Knowledge). z.seen) l.view_is)

  pub loaded_learns : Holds v v.name → Learns v w
  loaded_learns named = record {
    knows = subst (λ (z : List (List Entry)). Knows session_of v.name v.seen z) lists_are (record { grows = l.moment.grows; own = (l.moment.own_seen v.name named).entries });
    long = ap length (sym lists_are) ∙ l.moment.long;
    name = ap (λ (z : Knowledge). z.name) l.view_is;
    holds = ap (λ (z : Knowledge). z.holds) l.view_is;
  }

  pub loaded_kept : EngineInvariant start w.seen
  loaded_kept = subst (EngineInvariant start) lists_are l.moment.law

  pub loaded_stage : w.stage ≡ v.stage
  loaded_stage = ap (λ (z : Knowledge). z.stage) l.view_is

  pub loaded_shows : number_of_word start q (at w.seen q) ≡ x
  loaded_shows = subst (λ (z : List (List Entry)). number_of_word start q (at z q) ≡ x) lists_are l.shown

  pub loaded_oldest : q ≡ oldest_word start → shown_oldest start w.seen ≡ x
  loaded_oldest word = subst (λ z. last_from start.base.oldest (posts (at w.seen z)) ≡ x) word (sym (word_shows start q (at w.seen q) word) ∙ loaded_shows)

  -- whoever is inside the ProcArray's lock had seen its list
  pub loaded_proc : v.stage ≡ Inside proc_lock → at w.seen proc_lock ≡ at v.seen proc_lock
  loaded_proc inside = subst (λ (z : List (List Entry)). at z proc_lock ≡ at v.seen proc_lock) lists_are (sym ((l.moment.locked proc_lock inside).whole proc_lock (proc_writer start)))

-- ---- what is published

-- a word that shows no older one shows the oldest id
pub shown_from : (start : Start) (lists : List (List Entry)) → oldest_id start.base.oldest (history lists) ≤ shown_oldest start lists → IsShown start lists
shown_from start lists upto =
    let ns : List ℕ = posts (at lists (oldest_word start)) in
    ⊎_elim
    (λ (is : last_from start.base.oldest ns ≡ start.base.oldest). inl (omega arith))
    (λ k. inr (last_from start.base.oldest ns, has_contains ns (last_from start.base.oldest ns) k, upto))
    (last_among start.base.oldest ns)

pub may_publish : (start : Start) (seen : List (List Entry)) (by : By) (e : Entry) → EngineInvariant start seen → IsXidNumber (oldest_id start.base.oldest (history seen)) → e ≡ post_of by (oldest_id start.base.oldest (history seen)) → IsInTurn start (at seen (oldest_word start)) by → MayKeep start seen (oldest_word start) e
may_publish start seen by e kept form is turn = subst (MayKeep start seen (oldest_word start)) (sym is) (λ lists k knows inside whole. oldest_post_law start seen by kept form lists k knows inside whole turn)

module _ (start : Start) (v w : Knowledge) (n : ℕ) (s : Session) (a : IsAt start v n s) (p : Publishes start (by_at n s.levels.commands) v w) where
  abbrev entry : Entry
  entry = post_of (by_at n s.levels.commands) (oldest_id start.base.oldest (history v.seen))

  -- as if the lock had been left
  abbrev behind : Knowledge
  behind = record w { stage = Free }

  left : Leaves start (oldest_word start) entry v behind
  left = record { seen = p.seen; kept = p.kept; free = refl; name = p.name; holds = p.holds }

  inside : oldest_word start < length v.seen
  inside = let wide = a.wide in omega arith

  pub published_history : history w.seen ≡ history v.seen
  published_history = history_same start v behind (oldest_word start) entry refl inside left

  pub published_long : length w.seen ≡ length v.seen
  published_long = ap length p.seen ∙ length-set v.seen (oldest_word start) (at v.seen (oldest_word start) ++ entry ∷ [])

  pub published_proc : at w.seen proc_lock ≡ at v.seen proc_lock
  published_proc = ap (λ (z : List (List Entry)). at z proc_lock) p.seen ∙ at_else v.seen (oldest_word start) proc_lock entry (λ (q : proc_lock ≡ oldest_word start). omega arith)

  pub published_at : IsAt start w n s
  published_at =
      let b : IsAt start behind n s = (ready_quiet start v behind n n (oldest_word start) s s entry a inside refl refl refl refl refl refl left).at in record {
        base = b.base;
        before = b.before;
        kept = b.kept;
        name = b.name;
        known = b.known;
        wide = b.wide;
        turns = b.turns;
        stands = b.stands;
        clear = b.clear;
        unaborted = b.unaborted;
        filed = b.filed;
        makes = b.makes;
      }

  pub published_shown : IsShown start w.seen
  published_shown =
      let es : List Entry = at v.seen (oldest_word start) in
      let number : ℕ = oldest_id start.base.oldest (history v.seen) in
      let list : at w.seen (oldest_word start) ≡ es ++ entry ∷ [] = ap (λ (z : List (List Entry)). at z (oldest_word start)) p.seen ∙ at_here v.seen (oldest_word start) entry inside in
      let grown : posts (at w.seen (oldest_word start)) ≡ posts es ++ number ∷ [] = ap (λ (z : List Entry). posts z) list ∙ filter_map-append (λ (e : Entry). posted_in e.kind) es (entry ∷ []) in
      let same = ap (oldest_id start.base.oldest) published_history in
      inr (number, subst (λ (ns : List ℕ). Contains ns number) (sym grown) (Contains-push (posts es) number), omega arith)

  pub published_went : WentOn n [] v.seen w.seen
  published_went = went_quiet start v v behind n (oldest_word start) s entry a a.kept (learns_self v) inside refl refl refl left

  pub published_adds : (May : ℕ → Kind → Type 0) → ((number : ℕ) → May (oldest_word start) (kinds.Post number)) → Adds (by_at n s.levels.commands) May v.seen w.seen
  published_adds May posts = section_added start v v behind (oldest_word start) entry (by_at n s.levels.commands) May a.name (learns_self v) inside left refl (posts (oldest_id start.base.oldest (history v.seen)))

-- the word was published
pub published_of : (start : Start) (q : ℕ) (w z : Knowledge) (by : By) (e : Entry) → q ≡ oldest_word start → e ≡ post_of by (oldest_id start.base.oldest (history w.seen)) → shown_oldest start w.seen < oldest_id start.base.oldest (history w.seen) → IsXidNumber (oldest_id start.base.oldest (history w.seen)) → EngineInvariant start w.seen → IsInTurn start (at w.seen (oldest_word start)) by → oldest_word start < length w.seen → z ≡ published q e w → Publishes start by w z
published_of start q w z by e word is older form kept turn inside view =
    let grown : z.seen ≡ add w.seen (oldest_word start) (post_of by (oldest_id start.base.oldest (history w.seen))) = ap (λ (k : Knowledge). k.seen) view ∙ (λ j. add w.seen (word j) (is j)) in record {
      older = older;
      seen = grown;
      kept = subst (EngineInvariant start) (sym grown) (oldest_post_law start w.seen by kept form w.seen kept (learns_self (record w { name = by.session })).knows inside refl turn);
      stage = ap (λ (k : Knowledge). k.stage) view;
      name = ap (λ (k : Knowledge). k.name) view;
      holds = ap (λ (k : Knowledge). k.holds) view;
    }

-- what the table tells is the oldest id
pub table_oldest : (start : Start) (table : Table) (es : List Entry) (x : ℕ) → ProcStands start table es → x ≡ oldest_of table → x ≡ oldest_id start.base.oldest (events_in es)
table_oldest start table es x s is = is ∙ (λ j. oldest_id (s.base j).oldest (s.events j))

-- inside the ProcArray's lock the word was loaded, and stood there or was published
module _ (start : Start) (q : ℕ) (v w : Knowledge) (x n : ℕ) (s : Session) (a : IsAt start v n s) (named : Holds v v.name) (inside : v.stage ≡ Inside proc_lock) (l : Loaded session_of writer_of number_of_word EngineInvariant start q v x w) where
  pub found_at : IsAt start w n s
  found_at = at_on start v w n s a (loaded_learns start q v w x l named) (loaded_kept start q v w x l)

  pub found_stands : (table : Table) → ProcStands start table (at v.seen proc_lock) → ProcStands start table (at w.seen proc_lock)
  found_stands table = subst (ProcStands start table) (sym (loaded_proc start q v w x l inside))

  found_entered : (u : Knowledge) → Enters start proc_lock u v → Enters start proc_lock u w
  found_entered u e = record {
    learns = learns_then u v w e.learns (loaded_learns start q v w x l named);
    kept = loaded_kept start q v w x l;
    inside = loaded_stage start q v w x l ∙ inside;
  }

  pub stood_there : q ≡ oldest_word start → oldest_id start.base.oldest (history w.seen) ≤ x → (by : By) (u : Knowledge) → Enters start proc_lock u v → EntersProc start by u w
  stood_there word upto by u e =
      let f = found_entered u e in
      let same : shown_oldest start w.seen ≡ x = loaded_oldest start q v w x l word in record {
        found = w;
        enters = f;
        publishes = inl refl;
        shown = shown_from start w.seen (omega arith);
        kept = f.kept;
        inside = f.inside;
        long = f.learns.long;
      }

  -- where it shows an older id than the table tells, that one was published
  pub publishes_found : (table : Table) (oldest : ℕ) (z : Knowledge) (by : By) (e : Entry) → q ≡ oldest_word start → ProcStands start table (at v.seen proc_lock) → oldest ≡ oldest_of table → IsXidNumber oldest → x < oldest → by ≡ by_at n s.levels.commands → e ≡ post_of by oldest → z ≡ published q e w → Publishes start (by_at n s.levels.commands) w z
  publishes_found table oldest z by e word stands tells form older mine is view =
      let number : oldest ≡ oldest_id start.base.oldest (history w.seen) = table_oldest start table (at w.seen proc_lock) oldest (found_stands table stands) tells in
      let shows : shown_oldest start w.seen ≡ x = loaded_oldest start q v w x l word in
      let wide = found_at.wide in
      published_of start q w z (by_at n s.levels.commands) e word (is ∙ (λ j. post_of (mine j) (number j))) (omega arith) (subst IsXidNumber number form) found_at.kept (found_at.turns (oldest_word start)) (omega arith) view

  pub was_published : (z : Knowledge) → Publishes start (by_at n s.levels.commands) w z → (u : Knowledge) → Enters start proc_lock u v → EntersProc start (by_at n s.levels.commands) u z
  was_published z p u e =
      let f = found_entered u e in record {
        found = w;
        enters = f;
        publishes = inr p;
        shown = published_shown start w z n s found_at p;
        kept = p.kept;
        inside = p.stage ∙ f.inside;
        long = published_long start w z n s found_at p ∙ f.learns.long;
      }

-- ---- under no lock

-- the word shows what is at most one event behind what was seen
pub word_read : (start : Start) (q : ℕ) (v w : Knowledge) (x : ℕ) → Holds v v.name → q ≡ oldest_word start → Loaded session_of writer_of number_of_word EngineInvariant start q v x w → IsShownBehind start v.seen w.seen x
word_read start q v w x named word l =
    subst (IsShownBehind start v.seen w.seen) (loaded_oldest start q v w x l word)
    (oldest_shown start v.seen w.seen (loaded_kept start q v w x l) (loaded_learns start q v w x l named).knows.grows)

-- whoever only learns something goes on without an event
pub learned_went : (start : Start) (v w : Knowledge) (n : ℕ) (s : Session) → IsAt start v n s → Learns v w → EngineInvariant start w.seen → WentOn n [] v.seen w.seen
learned_went start v w n s a l k =
    let knows : Knows session_of n v.seen w.seen = subst (λ z. Knows session_of z v.seen w.seen) a.name l.knows in record {
      on = record {
        grows = knows.grows;
        own = own_events start n v.seen w.seen k knows ∙ sym (append-nil (filter (is_of n) (history v.seen)));
        multis = own_multis_stay start n v.seen w.seen k knows;
      };
      asks = λ id state asked. own_asks n id state v.seen w.seen knows asked;
    }

-- and adds nothing
pub learned_adds : (v w : Knowledge) (by : By) → v.name ≡ by.session → Learns v w → AddsNothing by v.seen w.seen
learned_adds v w by name l =
    let knows : Knows session_of by.session v.seen w.seen = subst (λ z. Knows session_of z v.seen w.seen) name l.knows in record {
      each = λ lock. record { added = []; grown = knows.own lock ∙ sym (append-nil (own session_of by.session (at v.seen lock))); each = tt };
    }
