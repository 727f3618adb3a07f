mod StreamLemmas
mod RunLemmas
mod PieceLemmas
mod Coming
