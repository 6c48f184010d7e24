-- What is read, as plain values.
use Rattle.std.specs.Prelude.{map}
use Rattle.sj_streams.specs.Reading.{CameAt}
use Rattle.sj_streams.specs.Words.{words_at}
use Rattle.sj_streams.specs.declared.replies.Came.{Came}

abbrev pub came_view : Came → CameAt
came_view c = record { stream = c.stream; first = c.first; entries = map (λ e. words_at e.items) c.entries.items }
