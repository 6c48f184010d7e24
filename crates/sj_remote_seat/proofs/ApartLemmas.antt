-- A guest that is taken apart, and put together again.
use Rattle.std.proofs.Common.{◌≡◌, ◌∙◌, ap}
use Rattle.sj_node.specs.Reading.{TakesEntry}
use Rattle.sj_node.specs.declared.node.Node.{Node}
use Rattle.sj_seat.specs.Holdings.{IsHeldBy}
use Rattle.sj_seat.specs.Views.{worker_of}
use Rattle.sj_seat.specs.declared.holdings.Holdings.{Holdings}
use Rattle.sj_seat.specs.declared.guest.Guest.{Guest}
use Rattle.sj_work.specs.Views.{node_of}
use Rattle.sj_work.specs.declared.worker.Worker.{Worker}
use Rattle.sj_remote_seat.specs.Turns.{Resembles, Still}
use Rattle.sj_remote_seat.proofs.SatLemmas.{after_entry, put_together, resembles_then}

module _ {O I G : Type 0} where
  -- its node lost its log, and looks the same to the rules otherwise
  pub put_back : (h : Holdings G) (a b : Guest O I G) (w v : Worker O I) (m n : Node) → IsHeldBy h a → IsHeldBy h b → w ≡ worker_of a
      → TakesEntry (node_of w) m → Resembles m n → node_of v ≡ n → worker_of b ≡ v → Still a b
  put_back h a b w v m n x y from taken like new to =
      put_together h a b (node_of w) n x y (ap node_of from) (ap node_of to ∙ new) (resembles_then (node_of w) m n (after_entry (node_of w) m taken) like)
