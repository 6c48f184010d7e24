-- One party, whole: its play, its tables of records, the frames that come to it, and its acts.
pub use Rattle.sj_rules.specs.Play.{Want, ended, local, sends, delegates, takes, closes, requests, accepts, Play}
pub use Rattle.sj_rules.specs.Tables.{NodeAt, put, with_main, with_old, with_offers, with_number, held_after, closed_after, parked_after, given_after, quietly}
pub use Rattle.sj_rules.specs.Arrivals.{at_main, plain_comes, signal_comes, ack_comes, claim_comes, give_comes, open_comes, comes, comes_or_opens, arrives}
pub use Rattle.sj_rules.specs.NodeActs.{held_behind_send, held_behind_take, send_act, delegate_act, work_of_take, is_free, take_from, take_act, close_act, open_session, request_act, held_at, accept_session, accept_offered, accept_act, act_by, acts}
