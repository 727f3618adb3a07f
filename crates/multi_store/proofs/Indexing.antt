-- What indexing a slice gives.
use Rattle.std.proofs.Common.{◌≡◌, ℕ, List, Option, Some, None, length, refl, sym}
use Rattle.std.specs.List.{slice_get}
use Rattle.std.specs.Option.{option_copied}
use Rattle.std.specs.Borrow.{Bor}
use Rattle.std.specs.Slice.{IsGetResult}
use Rattle.std.proofs.lemmas.Option.{slice_get_past, slice_get_read}

pub got_is : (xs : List ℕ) (i : ℕ) (r : Option (Bor ℕ)) → IsGetResult xs i i r → option_copied r ≡ slice_get xs i
got_is xs i None h = sym (slice_get_past xs i h.3)
got_is xs i (Some x) h = sym (slice_get_read xs (length xs) i x.now refl h.3.0 h.1)
