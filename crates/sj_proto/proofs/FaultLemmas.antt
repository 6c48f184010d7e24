-- A fault after what was read of a protocol.
use Rattle.std.proofs.Common.{◌≡◌, ◌≢◌, ℕ, ◌+◌, ◌<◌, ◌≤◌, true, List, [], ◌∷◌, ◌++◌, refl, ap, sym, ◌∙◌, arith}
use Rattle.std.specs.Prelude.{codes, map}
use Rattle.sj_lang.specs.declared.proto.Item.{Item}
use Rattle.sj_lang.specs.declared.proto.Item.TheVariants.{Send, Recv, Select, Branch, OutLoop, InLoop}
use Rattle.sj_lang.specs.Place.{Place, done, message, choice, repeat, no_choice, arm}
use Rattle.sj_lang.specs.View.{followed}
use Rattle.sj_lang.specs.ItemCount.{item_count}
use Rattle.sj_grammar.specs.declared.tokens.Fault.{Fault}
use Rattle.sj_lang.specs.Limits.{limits}
use Rattle.sj_grammar.specs.Lexis.{next_of}
use Rattle.sj_grammar.specs.Tables.{IsNamed, entry_of}
use Rattle.sj_grammar.specs.Positions.{At, Takes, Begins}
use Rattle.sj_grammar.specs.Protocols.{seq_pieces, dotted, IsGiven, AreGiven}
use Rattle.sj_grammar.specs.Layers.{goes, step}
use Rattle.sj_grammar.specs.ProtocolDues.{ProtocolDue, more, seq, maybe, label, fixed, protocol_layer}
use Rattle.sj_grammar.specs.FileDues.{Due, proto, file_layer}
use Rattle.sj_grammar.specs.Faults.{Stuck}
use Rattle.sj_grammar.specs.Asked.{Passes}
use Rattle.sj_grammar.proofs.StepLemmas.{Runs-cons, Runs-none, Runs-to}
use Rattle.sj_grammar.proofs.StucknessLemmas.{stuck_block, stuck_cons, skip}
use Rattle.sj_grammar.proofs.EmbeddingLemmas.{step_embedded, step_map}
use Rattle.sj_grammar.proofs.FramingLemmas.{step_before}
use Rattle.sj_proto.specs.Left.{due_behind}
use Rattle.sj_proto.specs.Items.{item_pieces}
use Rattle.sj_proto.specs.Parsed.{Gives}
use Rattle.sj_proto.proofs.ReadLemmas.{itself}
use Rattle.sj_proto.proofs.RunLemmas.{Reads, IsLikeItems, seq_like, without_dot, maybe_run, label_step}
use Rattle.sj_proto.proofs.WholeRunLemmas.{dotted_run, protocol_in_file, in_file}

pub step_in_file : (n m : ℕ) (ds es : List ProtocolDue) (rest : List Due) (s : List ℕ) → step protocol_layer limits n ds s ≡ goes m es → step file_layer limits n (map proto ds ++ rest) s ≡ goes m (map proto es ++ rest)
step_in_file n m ds es rest s e = step_before file_layer limits n m (map proto ds) (map proto es) rest s (step_embedded protocol_layer file_layer proto protocol_in_file limits n ds s ∙ ap (step_map proto) e)

-- items were read with this spelling, and the fault is after them
module _ (word : ℕ → List ℕ) (a m : At) (p : Place) (o n k : ℕ) (ds : List Due) (f : Fault) (here : Begins a (seq_pieces word p) m) (given : IsGiven limits word o p) (count : k ≡ n + item_count p) (few : k ≤ 1024) where
  items_run : Reads limits n (more o ∷ []) (dotted word p) k (more o ∷ [])
  items_run = Runs-to protocol_layer limits n (n + item_count p) k (more o ∷ []) (more o ∷ []) _ (sym count) (dotted_run limits word p o n [] given (omega arith))

  pub behind_run : (d : ProtocolDue) → IsLikeItems limits o d → p ≢ done → Stuck file_layer limits k m (proto (more o) ∷ ds) f → Stuck file_layer limits n a (proto d ∷ ds) f
  behind_run d like some st =
      stuck_block file_layer limits n k a m (seq_pieces word p) (proto d ∷ ds) (proto (more o) ∷ ds) f here
      (in_file limits n k (d ∷ []) (more o ∷ []) ds _ (without_dot limits word o d p n k [] (more o ∷ []) like some items_run)) st

  pub behind_items : (d : ProtocolDue) → IsLikeItems limits o d → p ≢ done → Passes file_layer (proto (more o)) (next_of m.text.ahead) → Stuck file_layer limits k m ds f → Stuck file_layer limits n a (proto d ∷ ds) f
  behind_items d like some passes st = behind_run d like some (skip file_layer limits k m (proto (more o)) ds f refl passes st)

  pub behind_maybe : Passes file_layer (proto (due_behind o p)) (next_of m.text.ahead) → Stuck file_layer limits k m ds f → Stuck file_layer limits n a (proto (maybe o) ∷ ds) f
  behind_maybe passes st =
      stuck_block file_layer limits n k a m (seq_pieces word p) (proto (maybe o) ∷ ds) (proto (due_behind o p) ∷ ds) f here
      (in_file limits n k (maybe o ∷ []) (due_behind o p ∷ []) ds _ (maybe_run limits word o p n k [] items_run)) (skip file_layer limits k m (proto (due_behind o p)) ds f (may_be_none p) passes st)
    where
      may_be_none : (p : Place) → file_layer.may_be_none (proto (due_behind o p)) ≡ true
      may_be_none done = refl
      may_be_none (message w k rest) = refl
      may_be_none (choice w k rest) = refl
      may_be_none (repeat w k rest) = refl

-- the same, by the spelling that the table there has
module _ (a m : At) (p : Place) (o n k : ℕ) (ds : List Due) (f : Fault) (gives : Gives a m (λ word. seq_pieces word p) (λ word. IsGiven limits word o p)) (count : k ≡ n + item_count p) (few : k ≤ 1024) where
  pub leads_items : (d : ProtocolDue) → IsLikeItems limits o d → p ≢ done → Passes file_layer (proto (more o)) (next_of m.text.ahead) → Stuck file_layer limits k m ds f → Stuck file_layer limits n a (proto d ∷ ds) f
  leads_items = let whole = gives (entry_of m.words) (itself m.words) in behind_items (entry_of m.words) a m p o n k ds f whole.0 whole.1 count few

  pub leads_maybe : Passes file_layer (proto (due_behind o p)) (next_of m.text.ahead) → Stuck file_layer limits k m ds f → Stuck file_layer limits n a (proto (maybe o) ∷ ds) f
  leads_maybe = let whole = gives (entry_of m.words) (itself m.words) in behind_maybe (entry_of m.words) a m p o n k ds f whole.0 whole.1 count few

-- after an item and a dot
pub item_stuck : (now there end : At) (i : Item) (o n k : ℕ) (ds : List Due) (f : Fault) → Gives now there (λ word. item_pieces word i) (λ word. IsGiven limits word o (followed i done))
    → k ≡ n + item_count (followed i done) → k ≤ 1024 → Takes there (codes ".") end → Stuck file_layer limits k end (proto (seq o) ∷ ds) f → Stuck file_layer limits n now (proto (seq o) ∷ ds) f
item_stuck now there end i o n k ds f gives count few dot st =
    let whole = gives (entry_of there.words) (itself there.words) in
    behind_run (entry_of there.words) now there (followed i done) o n k ds f whole.0 whole.1 count few (seq o) (seq_like limits o) (some_item i)
    (stuck_cons file_layer limits k k there end (codes ".") (proto (more o) ∷ ds) (proto (seq o) ∷ ds) f dot refl st)
  where
    some_item : (i : Item) → followed i done ≢ done
    some_item (Send k) = λ e. cc
    some_item (Recv k) = λ e. cc
    some_item (Select a) = λ e. cc
    some_item (Branch a) = λ e. cc
    some_item (OutLoop p) = λ e. cc
    some_item (InLoop p) = λ e. cc

-- after a label
pub label_stuck : (a m : At) (l k n : ℕ) (ds : List Due) (f : Fault) → Gives a m (λ word. word l ∷ []) (λ word. IsNamed limits word l) → k < 16 → Stuck file_layer limits n m ds f
    → Stuck file_layer limits n a (proto (label k) ∷ ds) f
label_stuck a m l k n ds f gives room st =
    let whole = gives (entry_of m.words) (itself m.words) in
    stuck_block file_layer limits n n a m (entry_of m.words l ∷ []) (proto (label k) ∷ ds) ds f whole.0
    (in_file limits n n (label k ∷ []) [] ds _ (Runs-cons protocol_layer limits n n n (label k ∷ []) [] [] (entry_of m.words l) [] (label_step limits (entry_of m.words l) k n [] room (record { name = whole.1.name; short = whole.1.short })) (Runs-none protocol_layer limits n []))) st

-- after a label, the colon and its items
pub arm_stuck : (a m : At) (l : ℕ) (p : Place) (o k n j : ℕ) (ds : List Due) (f : Fault) → Gives a m (λ word. word l ∷ codes ":" ∷ seq_pieces word p) (λ word. AreGiven limits word o k (arm l p no_choice))
    → j ≡ n + item_count p → j ≤ 1024 → Passes file_layer (proto (due_behind o p)) (next_of m.text.ahead) → Stuck file_layer limits j m ds f
    → Stuck file_layer limits n a (proto (label k) ∷ proto (fixed (codes ":")) ∷ proto (maybe o) ∷ ds) f
arm_stuck a m l p o k n j ds f gives count few passes st =
    let word = entry_of m.words in
    let whole = gives word (itself m.words) in
    let x = whole.0.0 in
    let y = whole.0.2.0 in
    stuck_cons file_layer limits n n a x (word l) (proto (label k) ∷ proto (fixed (codes ":")) ∷ proto (maybe o) ∷ ds) (proto (fixed (codes ":")) ∷ proto (maybe o) ∷ ds) f whole.0.1
    (step_in_file n n (label k ∷ []) [] (proto (fixed (codes ":")) ∷ proto (maybe o) ∷ ds) (word l) (label_step limits (word l) k n [] whole.1.0 (record { name = whole.1.1.name; short = whole.1.1.short })))
    (stuck_cons file_layer limits n n x y (codes ":") (proto (fixed (codes ":")) ∷ proto (maybe o) ∷ ds) (proto (maybe o) ∷ ds) f whole.0.2.1 refl
    (behind_maybe word y m p o n j ds f whole.0.2.2 whole.1.2 count few passes st))
