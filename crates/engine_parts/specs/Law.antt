-- What a session may add to a list: what keeps the invariant from whatever it has seen. Who adds to which list.
use Rattle.std.specs.Prelude.{◌≡◌, ℕ, ◌-◌, ◌<◌, ◌==◌, ltb, if◌then◌else◌, List, [], length, refl}
use Rattle.hall.specs.declared.writer.Writer.{Writer}
use Rattle.hall.specs.declared.writer.Writer.TheVariants.{Lock, Session}
use Rattle.hall.specs.Lists.{Whole}
use Rattle.notes.specs.Lists.{Knows, add, at}
use Rattle.tx_events.specs.Horizon.{oldest_xmin}
use Rattle.tx_core.specs.declared.entry.Entry.{Entry}
use Rattle.tx_core.specs.declared.entry.Start.{Start}
use Rattle.tx_core.specs.Entries.{session_of, last_from}
use Rattle.tx_core.specs.EngineInvariant.{EngineInvariant}
use Rattle.tx_core.specs.Locks.{first_request, oldest_word, proc_lock, xmin_word}
use Rattle.tx_core.specs.PostsFollow.{posts}

-- A lock's list is added to by whoever is inside; the two published words are written inside the ProcArray's lock, and
-- each session's requests by itself.
abbrev pub writer_of : Start → ℕ → Writer
writer_of start place =
    if ltb place (oldest_word start) then Lock place else if ltb place (first_request start) then Lock proc_lock
    else Session (place - first_request start)

-- A published word shows the number that was published last, and at first that of the start. A list of requests shows
-- none.
abbrev pub number_of_word : Start → ℕ → List Entry → ℕ
number_of_word start place es =
    if place == oldest_word start then last_from start.base.oldest (posts es)
    else if place == xmin_word start then last_from (oldest_xmin start.base.next []) (posts es) else 0

-- From any lists that keep the invariant and go on from what was seen, the own entries all seen and this list whole,
-- the entry keeps the invariant. Each law of `tx_core` concludes this of its kind of entry.
abbrev pub MayKeep : Start → List (List Entry) → ℕ → Entry → Type 0
MayKeep start seen lock e =
    (lists : List (List Entry)) → EngineInvariant start lists → Knows session_of (session_of e) seen lists
    → lock < length lists
    → at seen lock ≡ at lists lock → EngineInvariant start (add lists lock e)

pub engine_keeps : (start : Start) (lists seen : List (List Entry)) (place : ℕ) (entry : Entry)
    → EngineInvariant start lists
    → Knows session_of (session_of entry) seen lists
    → Whole (writer_of start) (Session (session_of entry)) seen lists → place < length lists
    → Whole (writer_of start) (writer_of start place) seen lists → MayKeep start seen place entry
    → EngineInvariant start (add lists place entry)
engine_keeps start lists seen place entry k knows words inside whole may =
    may lists k knows inside (whole.whole place refl)
