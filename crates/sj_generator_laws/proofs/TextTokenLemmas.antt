-- The generated text is its tokens, and a newline.
use Rattle.std.proofs.Common.{◌≡◌, ℕ, ◌+◌, List, [], ◌∷◌, ◌++◌, refl, ap, sym, ◌∙◌, append_assoc, append-nil}
use Rattle.std.specs.Prelude.{codes, decimal}
use Rattle.std.specs.Fmt.{digits}
use Rattle.sj_generator.specs.Generated as text
use Rattle.sj_generator.specs.Generated.{of_each, generated}
use Rattle.sj_generator_laws.proofs.PartLemmas.{zero_is, one_is, two_is, three_is, four_is, sender_by, sender_text, giver_by, adder_by, connections_by, connections_text}
use Rattle.sj_generator_laws.proofs.TokenRunLemmas.{Tok, text_of}
use Rattle.sj_generator_laws.proofs.GroupTokenLemmas.{nl, protocol_tokens, connect_tokens}
use Rattle.sj_generator_laws.proofs.SpelledLemmas.{group_tokens, parties_tokens, connects_tokens, all_tokens}

five_is : decimal 5 ≡ codes "5"
unfolding digits
five_is = refl

-- what stands after the number of messages, up to the end of the group
abbrev sender_back : List ℕ → List ℕ
sender_back v = codes " {\n    send x " ++ (v ++ codes ";\n  }\n  recv x r int;\n  close x;\n}\n")

abbrev others_by : List ℕ → List ℕ
others_by e = giver_by e ++ adder_by e

abbrev back : List ℕ → List ℕ → List ℕ
back e v =
    codes " {\n    send x " ++ (v ++ (codes ";\n  }\n  recv x r int;\n  close x;\n}\nparty b" ++ (e ++ (codes " {\n  delegate z y;\n  close z;\n}\nparty c"
    ++ (e ++ codes " {\n  recv u y session v;\n  let s = 0;\n  inwhile y {\n    recv y k int;\n    let s = s + k;\n  }\n  send y s;\n  close y;\n  close u;\n}")))))

abbrev front : List ℕ → List ℕ → List ℕ
front e t = codes "\nparty a" ++ (e ++ (codes " {\n  outwhile x " ++ t))

group_is : (n i : ℕ) (e v : List ℕ) → decimal i ≡ e → decimal (i + 1) ≡ v → text.group n i ≡ sender_by e (decimal n) v ++ others_by e
unfolding text.group
group_is n i e v is next =
    let d = decimal n in
    ap (λ x. x ++ (text.giver i ++ text.adder i)) (sender_text n i) ∙ ap (λ x. sender_by x d (decimal (i + 1)) ++ others_by x) is ∙ ap (λ x. sender_by e d x ++ others_by e) next

-- a group, where the newline before it stands at its front and not at its end
group_start : (n i : ℕ) (e v r : List ℕ) (ks : List Tok) → decimal i ≡ e → decimal (i + 1) ≡ v → 10 ∷ r ≡ text_of ks ++ nl
    → 10 ∷ ((sender_by e (decimal n) v ++ others_by e) ++ r) ≡ front e (((decimal n ++ sender_back v) ++ others_by e) ++ r)
    → (sender_back v ++ others_by e) ++ r ≡ back e v ++ (10 ∷ r)
    → front e ((decimal n ++ (back e v ++ text_of ks)) ++ nl) ≡ text_of (group_tokens e (decimal n) v ks) ++ nl
    → 10 ∷ (text.group n i ++ r) ≡ text_of (group_tokens e (decimal n) v ks) ++ nl
group_start n i e v r ks is next more first second third =
    let d = decimal n in
    ap (λ t. 10 ∷ (t ++ r)) (group_is n i e v is next) ∙ first
    ∙ ap (front e) (ap (λ t. t ++ r) (append_assoc d (sender_back v) (others_by e)) ∙ append_assoc d (sender_back v ++ others_by e) r)
    ∙ ap (λ t. front e (d ++ t)) (second ∙ ap (λ t. back e v ++ t) more ∙ sym (append_assoc (back e v) (text_of ks) nl))
    ∙ ap (front e) (sym (append_assoc d (back e v ++ text_of ks) nl)) ∙ third

connect_start : (i : ℕ) (e r : List ℕ) (ks : List Tok) → decimal i ≡ e → 10 ∷ r ≡ text_of ks ++ nl
    → 10 ∷ (connections_by e ++ r) ≡ text_of (connect_tokens e) ++ (10 ∷ r)
    → text_of (connect_tokens e) ++ (text_of ks ++ nl) ≡ text_of (connect_tokens e ++ ks) ++ nl → 10 ∷ (text.connections i ++ r) ≡ text_of (connect_tokens e ++ ks) ++ nl
connect_start i e r ks is more first second =
    ap (λ t. 10 ∷ (t ++ r)) (connections_text i ∙ ap connections_by is) ∙ first ∙ ap (λ t. text_of (connect_tokens e) ++ t) more ∙ second

connects_start : 10 ∷ of_each text.connections ≡ text_of connects_tokens ++ nl
connects_start =
    let c = text.connections in
    let four = connect_start 4 (codes "4") [] [] four_is refl refl refl in
    let three = connect_start 3 (codes "3") (c 4 ++ []) (connect_tokens (codes "4")) three_is four refl refl in
    let two = connect_start 2 (codes "2") (c 3 ++ (c 4 ++ [])) (connect_tokens (codes "3") ++ connect_tokens (codes "4")) two_is three refl refl in
    let one = connect_start 1 (codes "1") (c 2 ++ (c 3 ++ (c 4 ++ []))) (connect_tokens (codes "2") ++ (connect_tokens (codes "3") ++ connect_tokens (codes "4"))) one_is two refl refl in
    ap (λ t. 10 ∷ (c 0 ++ (c 1 ++ (c 2 ++ (c 3 ++ t))))) (sym (append-nil (c 4)))
    ∙ connect_start 0 (codes "0") (c 1 ++ (c 2 ++ (c 3 ++ (c 4 ++ [])))) (connect_tokens (codes "1") ++ (connect_tokens (codes "2") ++ (connect_tokens (codes "3") ++ connect_tokens (codes "4")))) zero_is one refl refl

parties_start : (n : ℕ) (r : List ℕ) (ks : List Tok) → 10 ∷ r ≡ text_of ks ++ nl → 10 ∷ (of_each (text.group n) ++ r) ≡ text_of (parties_tokens (decimal n) ks) ++ nl
parties_start n r ks more =
    let g = text.group n in
    let d = decimal n in
    let last = group_tokens (codes "4") d (codes "5") ks in
    let fourth = group_tokens (codes "3") d (codes "4") last in
    let third = group_tokens (codes "2") d (codes "3") fourth in
    let second = group_tokens (codes "1") d (codes "2") third in
    let four = group_start n 4 (codes "4") (codes "5") r ks four_is five_is more refl refl refl in
    let three = group_start n 3 (codes "3") (codes "4") (g 4 ++ r) last three_is four_is four refl refl refl in
    let two = group_start n 2 (codes "2") (codes "3") (g 3 ++ (g 4 ++ r)) fourth two_is three_is three refl refl refl in
    let one = group_start n 1 (codes "1") (codes "2") (g 2 ++ (g 3 ++ (g 4 ++ r))) third one_is two_is two refl refl refl in
    let zero = group_start n 0 (codes "0") (codes "1") (g 1 ++ (g 2 ++ (g 3 ++ (g 4 ++ r)))) second zero_is one_is one refl refl refl in
    ap (λ t. 10 ∷ t)
    (append_assoc (g 0) (g 1 ++ (g 2 ++ (g 3 ++ g 4))) r ∙ ap (λ t. g 0 ++ t) (append_assoc (g 1) (g 2 ++ (g 3 ++ g 4)) r ∙ ap (λ t. g 1 ++ t)
    (append_assoc (g 2) (g 3 ++ g 4) r ∙ ap (λ t. g 2 ++ t) (append_assoc (g 3) (g 4) r)))) ∙ zero

pub text_is_tokens : (n : ℕ) → generated n ≡ text_of (all_tokens (decimal n)) ++ nl
unfolding text.protocols
text_is_tokens n = ap (λ t. text_of protocol_tokens ++ t) (parties_start n (of_each text.connections) connects_tokens connects_start)
