mod OddLemmas
mod TwoLemmas
