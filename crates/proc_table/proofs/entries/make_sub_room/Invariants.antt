use Rattle.std.proofs.Common.{◌≡◌, ℕ, ◌<◌, ◌≤◌}
use Rattle.std.specs.List.{slice_index_or}
use Rattle.proc_table.specs.declared.entry.Entry.{Entry}
use Rattle.proc_table.specs.Entries.{IsSame, HasRoomFor}
use Rattle.proc_table.proofs.entries.make_sub_room.Given as goal

abbrev pub invariant-loop-i : goal.invariant-loop-i
invariant-loop-i l =
    ((k : ℕ) (d : Entry) → k < l.i → IsSame (slice_index_or l.fn.entries.items k d) (slice_index_or l.entries.items k d))
    × ((k : ℕ) (d : Entry) → l.i ≤ k → slice_index_or l.entries.items k d ≡ slice_index_or l.fn.entries.items k d)
    × ((k : ℕ) (d : Entry) → k < l.i → HasRoomFor l.session (slice_index_or l.entries.items k d))
