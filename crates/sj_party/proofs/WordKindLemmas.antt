-- Kinds of statements, by their first words.
use Rattle.std.proofs.Common.{◌≡◌, ℕ, List, refl}
use Rattle.std.specs.Prelude.{codes, if◌then◌else◌}
use Rattle.std.specs.Str.{bytes_eq}

-- what a statement is that begins with a word
pub data Kind : Type 0 where
  sends : Kind
  delegates : Kind
  takes : Kind
  selects : Kind
  branches_off : Kind
  loops_out : Kind
  loops_in : Kind
  relays : Kind
  tests : Kind
  binds : Kind
  closes : Kind
  requests : Kind
  accepts : Kind
  other : Kind

unfoldable pub kind_of : List ℕ → Kind
kind_of s =
    if bytes_eq s (codes "send") then sends
    else (if bytes_eq s (codes "delegate") then delegates
    else (if bytes_eq s (codes "recv") then takes
    else (if bytes_eq s (codes "outbranch") then selects
    else (if bytes_eq s (codes "inbranch") then branches_off
    else (if bytes_eq s (codes "outwhile") then loops_out
    else (if bytes_eq s (codes "inwhile") then loops_in
    else (if bytes_eq s (codes "relay") then relays
    else (if bytes_eq s (codes "if") then tests
    else (if bytes_eq s (codes "let") then binds
    else (if bytes_eq s (codes "close") then closes
    else (if bytes_eq s (codes "request") then requests
    else (if bytes_eq s (codes "accept") then accepts else other))))))))))))

pub sends_kind : kind_of (codes "send") ≡ sends
unfolding kind_of
sends_kind = refl

pub delegates_kind : kind_of (codes "delegate") ≡ delegates
unfolding kind_of
delegates_kind = refl

pub takes_kind : kind_of (codes "recv") ≡ takes
unfolding kind_of
takes_kind = refl

pub selects_kind : kind_of (codes "outbranch") ≡ selects
unfolding kind_of
selects_kind = refl

pub branches_off_kind : kind_of (codes "inbranch") ≡ branches_off
unfolding kind_of
branches_off_kind = refl

pub loops_out_kind : kind_of (codes "outwhile") ≡ loops_out
unfolding kind_of
loops_out_kind = refl

pub loops_in_kind : kind_of (codes "inwhile") ≡ loops_in
unfolding kind_of
loops_in_kind = refl

pub relays_kind : kind_of (codes "relay") ≡ relays
unfolding kind_of
relays_kind = refl

pub tests_kind : kind_of (codes "if") ≡ tests
unfolding kind_of
tests_kind = refl

pub binds_kind : kind_of (codes "let") ≡ binds
unfolding kind_of
binds_kind = refl

pub closes_kind : kind_of (codes "close") ≡ closes
unfolding kind_of
closes_kind = refl

pub requests_kind : kind_of (codes "request") ≡ requests
unfolding kind_of
requests_kind = refl

pub accepts_kind : kind_of (codes "accept") ≡ accepts
unfolding kind_of
accepts_kind = refl
