-- The generated text, part by part, with the digits of a group's number as they are.
use Rattle.std.proofs.Common.{◌≡◌, ℕ, ◌+◌, List, [], ◌∷◌, ◌++◌, refl, ap, sym, ◌∙◌, append_assoc}
use Rattle.std.specs.Prelude.{codes, decimal}
use Rattle.std.specs.Fmt.{digits}
use Rattle.sj_generator.specs.Generated as text

-- parts put after a text, one after another
abbrev behind : List ℕ → List (List ℕ) → List ℕ
behind t [] = t
behind t (p ∷ ps) = behind (t ++ p) ps

push : (d a : List ℕ) (ps : List (List ℕ)) → behind (d ++ a) ps ≡ d ++ behind a ps
push d a [] = refl
push d a (p ∷ ps) = ap (λ x. behind x ps) (append_assoc d a p) ∙ push d (a ++ p) ps

-- the digits of the groups' numbers
pub zero_is : decimal 0 ≡ codes "0"
unfolding digits
zero_is = refl

pub one_is : decimal 1 ≡ codes "1"
unfolding digits
one_is = refl

pub two_is : decimal 2 ≡ codes "2"
unfolding digits
two_is = refl

pub three_is : decimal 3 ≡ codes "3"
unfolding digits
three_is = refl

pub four_is : decimal 4 ≡ codes "4"
unfolding digits
four_is = refl

-- a sender, by the digit of its group, how often it sends, and what
abbrev pub sender_by : List ℕ → List ℕ → List ℕ → List ℕ
sender_by e d v = codes "party a" ++ (e ++ (codes " {\n  outwhile x " ++ (d ++ (codes " {\n    send x " ++ (v ++ codes ";\n  }\n  recv x r int;\n  close x;\n}\n")))))

pub sender_text : (n i : ℕ) → text.sender n i ≡ sender_by (decimal i) (decimal n) (decimal (i + 1))
sender_text n i =
    let e = decimal i in let d = decimal n in let v = decimal (i + 1) in
    ap (λ x. codes "party a" ++ x) (append_assoc e (codes " {\n") _
    ∙ ap (λ x. e ++ (codes " {\n  outwhile x " ++ x)) (append_assoc d (codes " {\n") _
    ∙ ap (λ x. d ++ (codes " {\n    send x " ++ x)) (append_assoc v (codes ";\n") _)))

-- the same as the canonical text has it
abbrev pub sender_printed : List ℕ → List ℕ → List ℕ → List ℕ
sender_printed e d v = codes "party a" ++ (e ++ (codes " {\n  outwhile x "
    ++ behind (d ++ (codes " {\n    send x " ++ behind v (codes ";" ∷ codes "\n" ∷ [] ∷ codes "  }" ∷ [])))
    (codes "\n" ∷ codes "  recv x r int;\n  close x;\n" ∷ codes "}" ∷ codes "\n" ∷ [])))

printed_sender : (e d v : List ℕ) → sender_printed e d v ≡ sender_by e d v
printed_sender e d v =
    let inner = codes " {\n    send x " ++ behind v (codes ";" ∷ codes "\n" ∷ [] ∷ codes "  }" ∷ []) in
    let back = codes "\n" ∷ codes "  recv x r int;\n  close x;\n" ∷ codes "}" ∷ codes "\n" ∷ [] in
    ap (λ x. codes "party a" ++ (e ++ (codes " {\n  outwhile x " ++ x)))
    (push d inner back ∙ ap (λ x. d ++ (codes " {\n    send x " ++ x)) (push v (codes ";") (codes "\n" ∷ [] ∷ codes "  }" ∷ back)))

-- one that delegates its end, by the digit of its group
abbrev pub giver_by : List ℕ → List ℕ
giver_by e = (codes "party b" ++ (e ++ codes " {\n")) ++ codes "  delegate z y;\n  close z;\n}\n"

-- one that sums
abbrev pub adder_by : List ℕ → List ℕ
adder_by e = (codes "party c" ++ (e ++ codes " {\n"))
    ++ codes "  recv u y session v;\n  let s = 0;\n  inwhile y {\n    recv y k int;\n    let s = s + k;\n  }\n  send y s;\n  close y;\n  close u;\n}\n"

-- the connections of a group
abbrev pub connections_by : List ℕ → List ℕ
connections_by e = (codes "connect a" ++ (e ++ (codes " x w to b" ++ (e ++ codes " y v;\n")))) ++ (codes "connect b" ++ (e ++ (codes " z g to c" ++ (e ++ codes " u h;\n"))))

pub connections_text : (i : ℕ) → text.connections i ≡ connections_by (decimal i)
unfolding text.connections
connections_text i = refl

-- a group of the text, by the digit of its number, is three parties
pub group_text : (n i : ℕ) (e p q r : List ℕ) → decimal i ≡ e → p ≡ sender_printed e (decimal n) (decimal (i + 1)) → q ≡ giver_by e → r ≡ adder_by e → text.group n i ≡ p ++ (q ++ r)
unfolding text.group
group_text n i e p q r is ps qs rs =
    let d = decimal n in let v = decimal (i + 1) in
    ap (λ x. x ++ (text.giver i ++ text.adder i)) (sender_text n i)
    ∙ ap (λ x. sender_by x d v ++ (giver_by x ++ adder_by x)) is
    ∙ ap (λ x. x ++ (giver_by e ++ adder_by e)) (sym (ps ∙ printed_sender e d v))
    ∙ ap (λ x. p ++ (x ++ adder_by e)) (sym qs) ∙ ap (λ x. p ++ (q ++ x)) (sym rs)
