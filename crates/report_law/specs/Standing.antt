-- What a session has pending of its multixacts, by its lines.
pub use Rattle.life_law.specs.MultiStanding.{Unfinished, none, perhaps, still, still_perhaps, sure, unfinished, unfinished_after, unfinished_behind, unfinished_from}
