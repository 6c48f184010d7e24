-- Items and arms so far, and one more.
use Rattle.std.proofs.Common.{◌≡◌, ◌≢◌, ℕ, List, [], ◌∷◌, ◌++◌, drop, length, ap, ◌∙◌, arith}
use Rattle.std.specs.Prelude.{codes}
use Rattle.sj_lang.specs.declared.proto.Item.{Item}
use Rattle.sj_lang.specs.declared.proto.Arm.{Arm}
use Rattle.sj_lang.specs.Place.{done, no_choice, arm}
use Rattle.sj_lang.specs.View.{followed, place_of, choices_of}
use Rattle.sj_lang.specs.Limits.{limits}
use Rattle.sj_grammar.specs.Positions.{At, Takes}
use Rattle.sj_grammar.specs.Protocols.{dotted, listed, seq_pieces, IsGiven, AreGiven}
use Rattle.sj_proto.specs.Items.{item_pieces}
use Rattle.sj_proto.specs.Parsed.{Gives}
use Rattle.sj_proto.proofs.PieceLemmas.{seq-push, seq-push_dot, IsGiven-push, AreGiven-push, arms-push, arms-push_comma, arm_pieces}
use Rattle.sj_proto.proofs.ReadLemmas.{Gives-append, Gives-as, takes_one}

-- the items so far, and one more
pub item_more : (start now there : At) (is : List Item) (i : Item) (o : ℕ) → Gives start now (λ word. drop 1 (dotted word (place_of is) ++ codes "." ∷ [])) (λ word. IsGiven limits word o (place_of is))
    → Gives now there (λ word. item_pieces word i) (λ word. IsGiven limits word o (followed i done)) → Gives start there (λ word. seq_pieces word (place_of (is ++ i ∷ []))) (λ word. IsGiven limits word o (place_of (is ++ i ∷ [])))
item_more start now there is i o g h =
    Gives-as start there (λ word. drop 1 (dotted word (place_of is) ++ codes "." ∷ []) ++ item_pieces word i) (λ word. seq_pieces word (place_of (is ++ i ∷ [])))
    (λ word. IsGiven limits word o (place_of is) × IsGiven limits word o (followed i done)) (λ word. IsGiven limits word o (place_of (is ++ i ∷ [])))
    (λ word. seq-push word is i) (λ word given. IsGiven-push word limits o is i given.0 given.1)
    (Gives-append start now there (λ word. drop 1 (dotted word (place_of is) ++ codes "." ∷ [])) (λ word. item_pieces word i) (λ word. IsGiven limits word o (place_of is)) (λ word. IsGiven limits word o (followed i done)) g h)

pub item_and_dot : (start now there end : At) (is : List Item) (i : Item) (o : ℕ) → Gives start now (λ word. drop 1 (dotted word (place_of is) ++ codes "." ∷ [])) (λ word. IsGiven limits word o (place_of is))
    → Gives now there (λ word. item_pieces word i) (λ word. IsGiven limits word o (followed i done)) → Takes there (codes ".") end
    → Gives start end (λ word. drop 1 (dotted word (place_of (is ++ i ∷ [])) ++ codes "." ∷ [])) (λ word. IsGiven limits word o (place_of (is ++ i ∷ [])))
item_and_dot start now there end is i o g h dot =
    Gives-as start end (λ word. seq_pieces word (place_of (is ++ i ∷ [])) ++ codes "." ∷ []) (λ word. drop 1 (dotted word (place_of (is ++ i ∷ [])) ++ codes "." ∷ []))
    (λ word. IsGiven limits word o (place_of (is ++ i ∷ [])) × Unit {0}) (λ word. IsGiven limits word o (place_of (is ++ i ∷ [])))
    (λ word. seq-push_dot word is i (codes "." ∷ [])) (λ word given. given.0)
    (Gives-append start there end (λ word. seq_pieces word (place_of (is ++ i ∷ []))) (λ word. codes "." ∷ []) (λ word. IsGiven limits word o (place_of (is ++ i ∷ []))) (λ word. Unit {0}) (item_more start now there is i o g h) (takes_one there end (codes ".") dot))

pub some_arms : (xs : List Arm) (x : Arm) → choices_of (xs ++ x ∷ []) ≢ no_choice
some_arms [] x = λ e. cc
some_arms (y ∷ xs) x = λ e. cc

-- the arms so far, one more, and a piece after it
pub arm_and : (start now there end : At) (xs : List Arm) (x : Arm) (o k : ℕ) → k ≡ length xs → Gives start now (λ word. drop 1 (listed word (choices_of xs) ++ codes "," ∷ [])) (λ word. AreGiven limits word o 0 (choices_of xs))
    → Gives now there (λ word. arm_pieces word x) (λ word. AreGiven limits word o k (arm x.label x.rest no_choice)) → (s : List ℕ) → Takes there s end
    → Gives start end (λ word. drop 1 (listed word (choices_of (xs ++ x ∷ []))) ++ s ∷ []) (λ word. AreGiven limits word o 0 (choices_of (xs ++ x ∷ [])))
arm_and start now there end xs x o k long g h s take =
    Gives-as start end (λ word. (drop 1 (listed word (choices_of xs) ++ codes "," ∷ []) ++ arm_pieces word x) ++ s ∷ []) (λ word. drop 1 (listed word (choices_of (xs ++ x ∷ []))) ++ s ∷ [])
    (λ word. (AreGiven limits word o 0 (choices_of xs) × AreGiven limits word o k (arm x.label x.rest no_choice)) × Unit {0}) (λ word. AreGiven limits word o 0 (choices_of (xs ++ x ∷ [])))
    (λ word. ap (λ ps. ps ++ s ∷ []) (arms-push word xs x)) (λ word given. AreGiven-push word limits o xs x 0 k (long ∙ omega arith) given.0.0 given.0.1)
    (Gives-append start there end (λ word. drop 1 (listed word (choices_of xs) ++ codes "," ∷ []) ++ arm_pieces word x) (λ word. s ∷ [])
    (λ word. AreGiven limits word o 0 (choices_of xs) × AreGiven limits word o k (arm x.label x.rest no_choice)) (λ word. Unit {0})
    (Gives-append start now there (λ word. drop 1 (listed word (choices_of xs) ++ codes "," ∷ [])) (λ word. arm_pieces word x) (λ word. AreGiven limits word o 0 (choices_of xs)) (λ word. AreGiven limits word o k (arm x.label x.rest no_choice)) g h)
    (takes_one there end s take))

pub arm_and_comma : (start now there end : At) (xs : List Arm) (x : Arm) (o k : ℕ) → k ≡ length xs → Gives start now (λ word. drop 1 (listed word (choices_of xs) ++ codes "," ∷ [])) (λ word. AreGiven limits word o 0 (choices_of xs))
    → Gives now there (λ word. arm_pieces word x) (λ word. AreGiven limits word o k (arm x.label x.rest no_choice)) → Takes there (codes ",") end
    → Gives start end (λ word. drop 1 (listed word (choices_of (xs ++ x ∷ [])) ++ codes "," ∷ [])) (λ word. AreGiven limits word o 0 (choices_of (xs ++ x ∷ [])))
arm_and_comma start now there end xs x o k long g h take =
    Gives-as start end (λ word. drop 1 (listed word (choices_of (xs ++ x ∷ []))) ++ codes "," ∷ []) (λ word. drop 1 (listed word (choices_of (xs ++ x ∷ [])) ++ codes "," ∷ []))
    (λ word. AreGiven limits word o 0 (choices_of (xs ++ x ∷ []))) (λ word. AreGiven limits word o 0 (choices_of (xs ++ x ∷ [])))
    (λ word. arms-push_comma word xs x (codes "," ∷ [])) (λ word given. given) (arm_and start now there end xs x o k long g h (codes ",") take)
