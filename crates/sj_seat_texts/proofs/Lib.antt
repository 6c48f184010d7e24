mod AddLemmas
mod CopyLemmas
mod OnceLemmas
