-- Steps of code, one after another.

-- the last value comes of the first by steps of that kind
pub data Steps {A : Type 0} (step : A → A → Type 0) (first : A) : A → Type 0 where
  stays : Steps step first first
  goes : (mid last : A) → Steps step first mid → step mid last → Steps step first last
