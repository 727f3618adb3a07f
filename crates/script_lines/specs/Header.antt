-- The header of a script: the lines that set the counters from which it starts, each at most once, in any order.
use Rattle.std.specs.Prelude.{ℕ, ◌^◌, ◌&&◌, ◌||◌, ◌==◌, not, nat_le, List, codes, cond, Bool, Option, Some, None, Result, Ok, Err, unwrap_or}
use Rattle.std.specs.Option.{is_some}
use Rattle.std.specs.Str.{bytes_eq}
use Rattle.tx_events.specs.Ids.{low_half}
use Rattle.tx_events.specs.declared.record.Counters.{Counters}
use Rattle.tx_events.specs.Limits.{stop_limit, multi_stop_limit, member_stop}
use Rattle.script_lines.specs.declared.header.Header.{Header}
use Rattle.script_lines.specs.declared.kind.Kind.{Kind}
use Rattle.script_lines.specs.declared.kind.Kind.TheVariants as kinds
use Rattle.script_lines.specs.Kinds.{◌>>=◌, fault_if}
use Rattle.script_lines.specs.Arguments.{one_of, number_in, id_in, multi_in}

abbrev pub is_header_word : List ℕ → Bool
is_header_word w =
    bytes_eq w (codes ".start") || bytes_eq w (codes ".oldest") || bytes_eq w (codes ".multi") || bytes_eq w (codes ".offset")
    || bytes_eq w (codes ".oldest-multi") || bytes_eq w (codes ".oldest-offset") || bytes_eq w (codes ".banks")

-- the one number behind a directive that wasn't given yet
unfoldable pub given_id : Option ℕ → List (List ℕ) → Result ℕ Kind
given_id given ws = do
  _ ← fault_if (is_some given) kinds.Directive
  w ← one_of ws
  id_in w

unfoldable pub given_multi : Option ℕ → List (List ℕ) → Result ℕ Kind
given_multi given ws = do
  _ ← fault_if (is_some given) kinds.Directive
  w ← one_of ws
  multi_in w

unfoldable pub given_number : ℕ → Option ℕ → List (List ℕ) → Result ℕ Kind
given_number high given ws = do
  _ ← fault_if (is_some given) kinds.Directive
  w ← one_of ws
  number_in 1 high w

-- with a line more, by the directive's own word
unfoldable pub header_with : Header → List ℕ → List (List ℕ) → Result Header Kind
header_with h w ws =
    cond (bytes_eq w (codes ".start")) (given_id h.start ws >>= λ n. Ok (record h { start = Some n }))
    (cond (bytes_eq w (codes ".oldest")) (given_id h.oldest ws >>= λ n. Ok (record h { oldest = Some n }))
    (cond (bytes_eq w (codes ".multi")) (given_multi h.multi ws >>= λ n. Ok (record h { multi = Some n }))
    (cond (bytes_eq w (codes ".offset")) (given_number (2 ^ 62) h.offset ws >>= λ n. Ok (record h { offset = Some n }))
    (cond (bytes_eq w (codes ".oldest-multi")) (given_multi h.oldest_multi ws >>= λ n. Ok (record h { oldest_multi = Some n }))
    (cond (bytes_eq w (codes ".oldest-offset")) (given_number (2 ^ 62) h.oldest_offset ws >>= λ n. Ok (record h { oldest_offset = Some n }))
    (cond (bytes_eq w (codes ".banks")) (given_number 16 h.banks ws >>= λ n. Ok (record h { banks = Some n }))
    (Err kinds.Directive)))))))

-- the counters that the header gives: those of a new log where no line gives others, and the oldest multixact and offset
-- are the next ones where no line gives others
abbrev pub base_of : Header → Counters
base_of h = record {
  next = unwrap_or h.start 3;
  oldest = unwrap_or h.oldest 3;
  multi = unwrap_or h.multi 1;
  offset = unwrap_or h.offset 1;
  oldest_multi = unwrap_or h.oldest_multi (unwrap_or h.multi 1);
  oldest_offset = unwrap_or h.oldest_offset (unwrap_or h.offset 1);
}

abbrev pub banks_of : Header → ℕ
banks_of h = unwrap_or h.banks 4

-- no line
unfoldable pub no_header : Header
no_header = record { start = None; oldest = None; multi = None; offset = None; oldest_multi = None; oldest_offset = None; banks = None }

-- `IsBase` of `tx_events`, as a test
unfoldable pub is_base : Counters → Bool
is_base c =
    nat_le 3 (low_half c.next) && nat_le 3 (low_half c.oldest) && nat_le c.oldest c.next && nat_le c.next (stop_limit c.oldest)
    && nat_le c.oldest_multi c.multi && nat_le c.multi (multi_stop_limit c.oldest_multi)
    && nat_le c.oldest_offset c.offset && nat_le c.offset (member_stop c.oldest_offset)
    && (not (c.oldest_multi == c.multi) || (c.oldest_offset == c.offset))
