use Rattle.std.proofs.Common.{◌≡◌, ◌≢◌, ℕ, suc, ◌+◌, ◌<◌, false, List, [], ◌∷◌, ◌++◌, length, drop, refl, ap, sym, subst, ◌∙◌, arith, length-append, add-one}
use Rattle.std.specs.Prelude.{codes, nat_le}
use Rattle.std.proofs.lemmas.Bool.{leb-false}
use Rattle.sj_lang.specs.declared.proto.Way.TheVariants.{Out, Into}
use Rattle.sj_lang.specs.declared.proto.Item.{Item}
use Rattle.sj_lang.specs.declared.proto.Arm.{Arm}
use Rattle.sj_lang.specs.Place.{Place, done, no_choice, arm}
use Rattle.sj_lang.specs.View.{carried_of, followed, place_of, choices_of}
use Rattle.sj_grammar.specs.declared.refusal.ParseRefusal.TheVariants as refusals
use Rattle.sj_lang.specs.Limits.{limits}
use Rattle.sj_grammar.specs.Lexis.{next_of}
use Rattle.sj_grammar.specs.Reading.{Reading}
use Rattle.sj_grammar.specs.Tables.{IsNamed}
use Rattle.sj_grammar.specs.Positions.{Takes}
use Rattle.sj_grammar.specs.Protocols.{seq_pieces, dotted, kind_pieces, listed, close_piece, way_piece, open_piece, IsGiven, IsGivenKind, AreGiven}
use Rattle.sj_grammar.specs.Layers.{step, goes}
use Rattle.sj_grammar.specs.ProtocolDues.{protocol_layer, seq, maybe, kind, label, fixed, arms, more, behind}
use Rattle.sj_grammar.specs.FileDues.{Due, proto, file_layer}
use Rattle.sj_grammar.specs.Faults.{Stuck}
use Rattle.sj_grammar.specs.Asked.{Passes, TakesText, Refuses, is_next, but, but_name}
use Rattle.sj_grammar.proofs.StucknessLemmas.{stuck_cons, refuses_stuck, skip}
use Rattle.sj_proto.specs.declared.choices.Bracket.{Bracket}
use Rattle.sj_proto.specs.Choices.{but_way, but_open, bracket_piece}
use Rattle.sj_proto.specs.Items.{item_pieces}
use Rattle.sj_proto.specs.Parsed.{standing, Gives, Stops}
use Rattle.sj_proto.proofs.ReadLemmas.{kept_on, Gives-cons, Gives-append, Gives-as, takes_one, took_way, took_close}
use Rattle.sj_proto.proofs.PieceLemmas.{item_count-push, arm_items-push, arm_pieces}
use Rattle.sj_proto.proofs.RunLemmas.{kind_like, way_step, open_step, arms_step, turns_step}
use Rattle.sj_proto.proofs.RuleLemmas.{way_rule, open_rule, piece_rule, label_rule}
use Rattle.sj_proto.proofs.FaultLemmas.{step_in_file, leads_items, leads_maybe, item_stuck, label_stuck, arm_stuck}
use Rattle.sj_proto.proofs.ExitLemmas.{no_name_int, no_name_boolean, no_name_String, err_as, if_err_map, on_fault_map, stops_map, from_left, plain, close_fault, keyword_fault, keyword_reads, kind_stuck, maybe_stuck, no_comma, open_plain, opened_stuck, opened_gives}
use Rattle.sj_proto.proofs.OnwardLemmas.{advances_on}
use Rattle.sj_proto.proofs.ListLemmas.{item_more, item_and_dot, some_arms, arm_and, arm_and_comma}
use Rattle.sj_proto.proofs.parse.+parse.Goals.{maybe-then-sees-via-then-sees, maybe-then-sees-via-else-sees+then-sees-2}
use Rattle.sj_proto.proofs.parse.+parse.Goals as goal

pub carried-returns-in_err-expect-clause-fault : goal.carried-returns-in_err-expect-clause-fault
carried-returns-in_err-expect-clause-fault t c =
    err_as _ (refusals.At c.in_err-expect.field-0.0) _ c.from_residual.ensures.1
    (λ ds. keyword_fault c.args.way (codes "int") no_name_int refl c.args.depth c.args.items.now (λ ds. refl) c.args.tokens.now c.accept.new.self c.args.names.now _ _ c.close_bytes.ensures (c.accept.ensures.taken c.if-accept.true) c.in_err-expect.ensures.fault ds)

pub carried-returns-then-accept-clause-reads : goal.carried-returns-then-accept-clause-reads
carried-returns-then-accept-clause-reads t c =
    keyword_reads c.args.way (codes "int") no_name_int refl c.args.tokens.now c.accept.new.self c.expect.new.self c.args.names.now _ c.close_bytes.ensures (c.accept.ensures.taken c.if-accept.true) c.in_ok-expect.ensures.ok

pub carried-returns-in_err-expect-2-clause-fault : goal.carried-returns-in_err-expect-2-clause-fault
carried-returns-in_err-expect-2-clause-fault t c =
    err_as _ (refusals.At c.in_err-expect-2.field-0.0) _ c.from_residual-in_err-expect-2.ensures.1
    (λ ds. keyword_fault c.args.way (codes "boolean") no_name_boolean refl c.args.depth c.args.items.now (λ ds. refl) c.args.tokens.now c.accept-2.new.self c.args.names.now _ _ c.close_bytes-then-accept-2.ensures (from_left _ _ _ _ (c.accept.ensures.left c.if-accept.false) (c.accept-2.ensures.taken c.if-accept-2.true)) c.in_err-expect-2.ensures.fault ds)

pub carried-returns-then-accept-2-clause-reads : goal.carried-returns-then-accept-2-clause-reads
carried-returns-then-accept-2-clause-reads t c =
    keyword_reads c.args.way (codes "boolean") no_name_boolean refl c.args.tokens.now c.accept-2.new.self c.expect-then-accept-2.new.self c.args.names.now _ c.close_bytes-then-accept-2.ensures (from_left _ _ _ _ (c.accept.ensures.left c.if-accept.false) (c.accept-2.ensures.taken c.if-accept-2.true)) c.in_ok-expect-2.ensures.ok

pub carried-returns-in_err-expect-3-clause-fault : goal.carried-returns-in_err-expect-3-clause-fault
carried-returns-in_err-expect-3-clause-fault t c =
    err_as _ (refusals.At c.in_err-expect-3.field-0.0) _ c.from_residual-in_err-expect-3.ensures.1
    (λ ds. keyword_fault c.args.way (codes "String") no_name_String refl c.args.depth c.args.items.now (λ ds. refl) c.args.tokens.now c.accept-3.new.self c.args.names.now _ _ c.close_bytes-then-accept-3.ensures (from_left _ _ _ _ (c.accept-2.ensures.left c.if-accept-2.false ∙ c.accept.ensures.left c.if-accept.false) (c.accept-3.ensures.taken c.if-accept-3.true)) c.in_err-expect-3.ensures.fault ds)

pub carried-returns-then-accept-3-clause-reads : goal.carried-returns-then-accept-3-clause-reads
carried-returns-then-accept-3-clause-reads t c =
    keyword_reads c.args.way (codes "String") no_name_String refl c.args.tokens.now c.accept-3.new.self c.expect-then-accept-3.new.self c.args.names.now _ c.close_bytes-then-accept-3.ensures (from_left _ _ _ _ (c.accept-2.ensures.left c.if-accept-2.false ∙ c.accept.ensures.left c.if-accept.false) (c.accept-3.ensures.taken c.if-accept-3.true)) c.in_ok-expect-3.ensures.ok

pub carried-returns-in_err-p-clause-fault : goal.carried-returns-in_err-p-clause-fault
carried-returns-in_err-p-clause-fault t c =
    let two = c.accept-2.ensures.left c.if-accept-2.false ∙ c.accept.ensures.left c.if-accept.false in
    let same = c.accept-3.ensures.left c.if-accept-3.false ∙ two in
    let x = c.args.tokens.now in
    let no_int : is_next (codes "int") (next_of x.ahead) ≡ false = sym c.accept.ensures.answer ∙ c.if-accept.false in
    let no_boolean : is_next (codes "boolean") (next_of x.ahead) ≡ false = ap (λ (r : Reading). is_next (codes "boolean") (next_of r.ahead)) (sym (c.accept.ensures.left c.if-accept.false)) ∙ sym c.accept-2.ensures.answer ∙ c.if-accept-2.false in
    let no_string : is_next (codes "String") (next_of x.ahead) ≡ false = ap (λ (r : Reading). is_next (codes "String") (next_of r.ahead)) (sym two) ∙ sym c.accept-3.ensures.answer ∙ c.if-accept-3.false in
    err_as _ c.in_err-p.field-0.0 _ c.from_residual-in_err-p.ensures.1
    (stops_map (λ ds. proto (seq c.args.depth) ∷ ds) (λ ds. proto (kind c.args.depth) ∷ proto (fixed (close_piece c.args.way)) ∷ ds) c.args.items.now c.args.items.now (standing c.accept-3.new.self c.args.names.now) (standing x c.args.names.now) c.in_err-p.field-0.0
    (λ f st ds. kind_stuck x c.args.names.now c.args.depth c.args.items.now (proto (fixed (close_piece c.args.way)) ∷ ds) f no_int no_boolean no_string
    (subst (λ (r : Reading). Stuck file_layer limits c.args.items.now (standing r c.args.names.now) (proto (seq c.args.depth) ∷ proto (fixed (close_piece c.args.way)) ∷ ds) f) same (st (proto (fixed (close_piece c.args.way)) ∷ ds))))
    c.in_err-p.ensures.fault)

pub carried-returns-in_err-expect-4-clause-fault : goal.carried-returns-in_err-expect-4-clause-fault
carried-returns-in_err-expect-4-clause-fault t c =
    let same = c.accept-3.ensures.left c.if-accept-3.false ∙ (c.accept-2.ensures.left c.if-accept-2.false ∙ c.accept.ensures.left c.if-accept.false) in
    let now = standing c.accept-3.new.self c.args.names.now in
    let there = standing c.seq.new.tokens c.seq.new.names in
    let f = c.in_err-expect-4.field-0.0 in
    err_as _ (refusals.At f) _ c.from_residual-in_err-expect-4.ensures.1
    (λ ds. subst (λ (r : Reading). Stuck file_layer limits c.args.items.now (standing r c.args.names.now) (proto (kind c.args.depth) ∷ proto (fixed (close_piece c.args.way)) ∷ ds) f) same
    (leads_items now there c.in_ok-p.p c.args.depth c.args.items.now c.seq.new.items (proto (fixed (close_piece c.args.way)) ∷ ds) f c.in_ok-p.ensures.reads c.in_ok-p.ensures.leaves.count c.in_ok-p.ensures.leaves.few (kind c.args.depth) (kind_like limits c.args.depth) c.in_ok-p.ensures.some c.in_ok-p.ensures.ends
    (close_fault c.args.way c.close_bytes-2.result.now c.seq.new.tokens c.seq.new.names c.seq.new.items ds f c.close_bytes-2.ensures c.in_err-expect-4.ensures.fault)))

pub carried-returns-clause-reads : goal.carried-returns-clause-reads
carried-returns-clause-reads t c =
    let same = c.accept-3.ensures.left c.if-accept-3.false ∙ (c.accept-2.ensures.left c.if-accept-2.false ∙ c.accept.ensures.left c.if-accept.false) in
    let p = c.in_ok-p.p in
    let now = standing c.accept-3.new.self c.args.names.now in
    let there = standing c.seq.new.tokens c.seq.new.names in
    let end = standing c.expect-2.new.self c.seq.new.names in
    let closed : Takes there (close_piece c.args.way) end = took_close c.args.way c.seq.new.tokens c.expect-2.new.self c.seq.new.names.words c.seq.new.names.texts
    (subst (λ (s : List ℕ). TakesText c.seq.new.tokens s c.expect-2.new.self) c.close_bytes-2.ensures c.in_ok-expect-4.ensures.ok) in
    subst (λ (r : Reading). Gives (standing r c.args.names.now) end (λ word. seq_pieces word p ++ close_piece c.args.way ∷ []) (λ word. (p ≢ done) × IsGiven limits word c.args.depth p)) same
    (Gives-as now end (λ word. seq_pieces word p ++ close_piece c.args.way ∷ []) (λ word. seq_pieces word p ++ close_piece c.args.way ∷ []) (λ word. IsGiven limits word c.args.depth p × Unit {0}) (λ word. (p ≢ done) × IsGiven limits word c.args.depth p)
    (λ word. refl) (λ word h. (c.in_ok-p.ensures.some, h.0))
    (Gives-append now there end (λ word. seq_pieces word p) (λ word. close_piece c.args.way ∷ []) (λ word. IsGiven limits word c.args.depth p) (λ word. Unit {0}) c.in_ok-p.ensures.reads (takes_one there end (close_piece c.args.way) closed)))

pub item-returns-in_err-way-clause-fault : goal.item-returns-in_err-way-clause-fault
item-returns-in_err-way-clause-fault t c =
    err_as _ (refusals.At c.in_err-way.field-0.0) _ c.from_residual.ensures.1
    (λ ds. refuses_stuck file_layer limits (but_way (nat_le 1024 c.args.items.now)) c.args.items.now (standing c.args.tokens.now c.args.names.now) (proto (seq c.args.depth) ∷ ds) c.in_err-way.field-0.0 refl (way_rule c.args.depth c.args.items.now ds) c.in_err-way.ensures.fault)

pub item-returns-in_err-take_bracket-clause-fault : goal.item-returns-in_err-take_bracket-clause-fault
item-returns-in_err-take_bracket-clause-fault t c =
    let f = c.in_err-take_bracket.field-0.0 in
    let w = c.in_ok-way.way in
    let n = c.args.items.now in
    let q = c.take_way.new.tokens in
    let room : n < 1024 = leb-false 1024 n c.in_ok-way.ensures.room in
    err_as _ (refusals.At f) _ c.from_residual-in_err-take_bracket.ensures.1
    (λ ds. stuck_cons file_layer limits n (suc n) (standing c.args.tokens.now c.args.names.now) (standing q c.args.names.now) (way_piece w) (proto (seq c.args.depth) ∷ ds) (proto (behind c.args.depth w) ∷ proto (more c.args.depth) ∷ ds) f
    (took_way w c.args.tokens.now q c.args.names.now.words c.args.names.now.texts c.in_ok-way.ensures.ok) (step_in_file n (suc n) (seq c.args.depth ∷ []) (behind c.args.depth w ∷ more c.args.depth ∷ []) ds (way_piece w) (way_step limits w c.args.depth n [] room))
    (refuses_stuck file_layer limits (but_open w (nat_le 32 c.args.depth)) (suc n) (standing q c.args.names.now) (proto (behind c.args.depth w) ∷ proto (more c.args.depth) ∷ ds) f refl (open_rule w c.args.depth (suc n) (proto (more c.args.depth) ∷ ds)) c.in_err-take_bracket.ensures.fault))

pub item-returns-in_err-carried-in-Kind-clause-fault : goal.item-returns-in_err-carried-in-Kind-clause-fault
item-returns-in_err-carried-in-Kind-clause-fault t c =
    let w = c.in_ok-way.way in
    let n = c.args.items.now in
    let room : n < 1024 = leb-false 1024 n c.in_ok-way.ensures.room in
    let shallow : c.args.depth < 32 = leb-false 32 c.args.depth c.in_ok-take_bracket.ensures.room in
    let opened : TakesText c.take_way.new.tokens (open_piece w) c.take_bracket.new.tokens =
    subst (λ (o : Bracket). TakesText c.take_way.new.tokens (bracket_piece w o) c.take_bracket.new.tokens) c.in-Kind.is c.in_ok-take_bracket.ensures.ok in
    err_as _ c.in_err-carried-in-Kind.field-0.0 _ c.from_residual-in_err-carried-in-Kind.ensures.1
    (stops_map (λ ds. proto (kind (c.args.depth + 1)) ∷ proto (fixed (close_piece w)) ∷ ds) (λ ds. proto (seq c.args.depth) ∷ ds) (n + 1) n (standing c.take_bracket.new.tokens c.args.names.now) (standing c.args.tokens.now c.args.names.now) c.in_err-carried-in-Kind.field-0.0
    (λ f st ds. opened_stuck w (open_piece w) c.args.tokens.now c.take_way.new.tokens c.take_bracket.new.tokens c.args.names.now c.args.depth n (open_plain w).0 (open_plain w).1 room c.in_ok-way.ensures.ok opened
    (kind (c.args.depth + 1) ∷ fixed (close_piece w) ∷ []) f (subst (λ (o : ℕ). step protocol_layer limits (suc n) (behind c.args.depth w ∷ []) (open_piece w) ≡ goes (suc n) (kind o ∷ fixed (close_piece w) ∷ [])) (sym (add-one c.args.depth)) (open_step limits w c.args.depth (suc n) [] shallow)) ds (st (proto (more c.args.depth) ∷ ds)))
    c.in_err-carried-in-Kind.ensures.fault)

pub item-returns-in_ok-carried-in-Kind-clause-reads : goal.item-returns-in_ok-carried-in-Kind-clause-reads
item-returns-in_ok-carried-in-Kind-clause-reads t c =
    let w = c.in_ok-way.way in
    let n = c.args.items.now in
    let room : n < 1024 = leb-false 1024 n c.in_ok-way.ensures.room in
    let shallow : c.args.depth < 32 = leb-false 32 c.args.depth c.in_ok-take_bracket.ensures.room in
    let opened : TakesText c.take_way.new.tokens (open_piece w) c.take_bracket.new.tokens =
    subst (λ (o : Bracket). TakesText c.take_way.new.tokens (bracket_piece w o) c.take_bracket.new.tokens) c.in-Kind.is c.in_ok-take_bracket.ensures.ok in
    Gives-as (standing c.args.tokens.now c.args.names.now) (standing c.carried.new.tokens c.carried.new.names) (λ word. way_piece w ∷ (open_piece w) ∷ (kind_pieces word (carried_of c.in_ok-carried-in-Kind.carried) ++ close_piece w ∷ [])) (λ word. item_pieces word c.message_item.result)
    (λ word. IsGivenKind limits word (c.args.depth + 1) (carried_of c.in_ok-carried-in-Kind.carried)) (λ word. IsGiven limits word c.args.depth (followed c.message_item.result done))
    (λ word. ap (λ (q : Place). seq_pieces word q) (sym c.message_item.ensures))
    (λ word h. subst (λ (q : Place). IsGiven limits word c.args.depth q) (sym c.message_item.ensures) (shallow, subst (λ (o : ℕ). IsGivenKind limits word o (carried_of c.in_ok-carried-in-Kind.carried)) (add-one c.args.depth) h, tt))
    (opened_gives w (open_piece w) c.args.tokens.now c.take_way.new.tokens c.take_bracket.new.tokens c.args.names.now c.args.depth n (open_plain w).0 (open_plain w).1 room c.in_ok-way.ensures.ok opened
    (standing c.carried.new.tokens c.carried.new.names) (λ word. kind_pieces word (carried_of c.in_ok-carried-in-Kind.carried) ++ close_piece w ∷ []) (λ word. IsGivenKind limits word (c.args.depth + 1) (carried_of c.in_ok-carried-in-Kind.carried)) c.in_ok-carried-in-Kind.ensures.reads)

pub item-returns-in_err-arms-in-Arms-clause-fault : goal.item-returns-in_err-arms-in-Arms-clause-fault
item-returns-in_err-arms-in-Arms-clause-fault t c =
    let w = c.in_ok-way.way in
    let n = c.args.items.now in
    let room : n < 1024 = leb-false 1024 n c.in_ok-way.ensures.room in
    let shallow : c.args.depth < 32 = leb-false 32 c.args.depth c.in_ok-take_bracket.ensures.room in
    let opened : TakesText c.take_way.new.tokens (codes "{") c.take_bracket.new.tokens =
    subst (λ (o : Bracket). TakesText c.take_way.new.tokens (bracket_piece w o) c.take_bracket.new.tokens) c.in-Arms.is c.in_ok-take_bracket.ensures.ok in
    err_as _ c.in_err-arms-in-Arms.field-0.0 _ c.from_residual-in_err-arms-in-Arms.ensures.1
    (stops_map (λ ds. proto (label 0) ∷ proto (fixed (codes ":")) ∷ proto (maybe (c.args.depth + 1)) ∷ proto (arms (c.args.depth + 1) 1) ∷ proto (fixed (codes "}")) ∷ ds) (λ ds. proto (seq c.args.depth) ∷ ds) (n + 1) n (standing c.take_bracket.new.tokens c.args.names.now) (standing c.args.tokens.now c.args.names.now) c.in_err-arms-in-Arms.field-0.0
    (λ f st ds. opened_stuck w (codes "{") c.args.tokens.now c.take_way.new.tokens c.take_bracket.new.tokens c.args.names.now c.args.depth n refl refl room c.in_ok-way.ensures.ok opened
    (label 0 ∷ fixed (codes ":") ∷ maybe (c.args.depth + 1) ∷ arms (c.args.depth + 1) 1 ∷ fixed (codes "}") ∷ []) f (subst (λ (o : ℕ). step protocol_layer limits (suc n) (behind c.args.depth w ∷ []) (codes "{") ≡ goes (suc n) (label 0 ∷ fixed (codes ":") ∷ maybe o ∷ arms o 1 ∷ fixed (codes "}") ∷ [])) (sym (add-one c.args.depth)) (arms_step limits w c.args.depth (suc n) [] shallow)) ds (st (proto (more c.args.depth) ∷ ds)))
    c.in_err-arms-in-Arms.ensures.fault)

pub item-returns-in_ok-arms-in-Arms-clause-reads : goal.item-returns-in_ok-arms-in-Arms-clause-reads
item-returns-in_ok-arms-in-Arms-clause-reads t c =
    let w = c.in_ok-way.way in
    let n = c.args.items.now in
    let room : n < 1024 = leb-false 1024 n c.in_ok-way.ensures.room in
    let shallow : c.args.depth < 32 = leb-false 32 c.args.depth c.in_ok-take_bracket.ensures.room in
    let opened : TakesText c.take_way.new.tokens (codes "{") c.take_bracket.new.tokens =
    subst (λ (o : Bracket). TakesText c.take_way.new.tokens (bracket_piece w o) c.take_bracket.new.tokens) c.in-Arms.is c.in_ok-take_bracket.ensures.ok in
    Gives-as (standing c.args.tokens.now c.args.names.now) (standing c.choices.new.tokens c.choices.new.names) (λ word. way_piece w ∷ (codes "{") ∷ (drop 1 (listed word c.in_ok-arms-in-Arms.arms) ++ codes "}" ∷ [])) (λ word. item_pieces word c.choice_item.result)
    (λ word. AreGiven limits word (c.args.depth + 1) 0 c.in_ok-arms-in-Arms.arms) (λ word. IsGiven limits word c.args.depth (followed c.choice_item.result done))
    (λ word. ap (λ (q : Place). seq_pieces word q) (sym c.choice_item.ensures))
    (λ word h. subst (λ (q : Place). IsGiven limits word c.args.depth q) (sym c.choice_item.ensures) (shallow, c.in_ok-arms-in-Arms.ensures.some, subst (λ (o : ℕ). AreGiven limits word o 0 c.in_ok-arms-in-Arms.arms) (add-one c.args.depth) h, tt))
    (opened_gives w (codes "{") c.args.tokens.now c.take_way.new.tokens c.take_bracket.new.tokens c.args.names.now c.args.depth n refl refl room c.in_ok-way.ensures.ok opened
    (standing c.choices.new.tokens c.choices.new.names) (λ word. drop 1 (listed word c.in_ok-arms-in-Arms.arms) ++ codes "}" ∷ []) (λ word. AreGiven limits word (c.args.depth + 1) 0 c.in_ok-arms-in-Arms.arms) c.in_ok-arms-in-Arms.ensures.reads)

pub item-returns-in_err-body-in-Turns-clause-fault : goal.item-returns-in_err-body-in-Turns-clause-fault
item-returns-in_err-body-in-Turns-clause-fault t c =
    let w = c.in_ok-way.way in
    let n = c.args.items.now in
    let room : n < 1024 = leb-false 1024 n c.in_ok-way.ensures.room in
    let shallow : c.args.depth < 32 = leb-false 32 c.args.depth c.in_ok-take_bracket.ensures.room in
    let opened : TakesText c.take_way.new.tokens (codes "[") c.take_bracket.new.tokens =
    subst (λ (o : Bracket). TakesText c.take_way.new.tokens (bracket_piece w o) c.take_bracket.new.tokens) c.in-Turns.is c.in_ok-take_bracket.ensures.ok in
    err_as _ c.in_err-body-in-Turns.field-0.0 _ c.from_residual-in_err-body-in-Turns.ensures.1
    (stops_map (λ ds. proto (maybe (c.args.depth + 1)) ∷ proto (fixed (codes "]")) ∷ proto (fixed (codes "*")) ∷ ds) (λ ds. proto (seq c.args.depth) ∷ ds) (n + 1) n (standing c.take_bracket.new.tokens c.args.names.now) (standing c.args.tokens.now c.args.names.now) c.in_err-body-in-Turns.field-0.0
    (λ f st ds. opened_stuck w (codes "[") c.args.tokens.now c.take_way.new.tokens c.take_bracket.new.tokens c.args.names.now c.args.depth n refl refl room c.in_ok-way.ensures.ok opened
    (maybe (c.args.depth + 1) ∷ fixed (codes "]") ∷ fixed (codes "*") ∷ []) f (subst (λ (o : ℕ). step protocol_layer limits (suc n) (behind c.args.depth w ∷ []) (codes "[") ≡ goes (suc n) (maybe o ∷ fixed (codes "]") ∷ fixed (codes "*") ∷ [])) (sym (add-one c.args.depth)) (turns_step limits w c.args.depth (suc n) [] shallow)) ds (st (proto (more c.args.depth) ∷ ds)))
    c.in_err-body-in-Turns.ensures.fault)

pub item-returns-in_ok-body-in-Turns-clause-reads : goal.item-returns-in_ok-body-in-Turns-clause-reads
item-returns-in_ok-body-in-Turns-clause-reads t c =
    let w = c.in_ok-way.way in
    let n = c.args.items.now in
    let room : n < 1024 = leb-false 1024 n c.in_ok-way.ensures.room in
    let shallow : c.args.depth < 32 = leb-false 32 c.args.depth c.in_ok-take_bracket.ensures.room in
    let opened : TakesText c.take_way.new.tokens (codes "[") c.take_bracket.new.tokens =
    subst (λ (o : Bracket). TakesText c.take_way.new.tokens (bracket_piece w o) c.take_bracket.new.tokens) c.in-Turns.is c.in_ok-take_bracket.ensures.ok in
    Gives-as (standing c.args.tokens.now c.args.names.now) (standing c.turns.new.tokens c.turns.new.names) (λ word. way_piece w ∷ (codes "[") ∷ (seq_pieces word c.in_ok-body-in-Turns.body ++ codes "]" ∷ codes "*" ∷ [])) (λ word. item_pieces word c.loop_item.result)
    (λ word. IsGiven limits word (c.args.depth + 1) c.in_ok-body-in-Turns.body) (λ word. IsGiven limits word c.args.depth (followed c.loop_item.result done))
    (λ word. ap (λ (q : Place). seq_pieces word q) (sym c.loop_item.ensures))
    (λ word h. subst (λ (q : Place). IsGiven limits word c.args.depth q) (sym c.loop_item.ensures) (shallow, subst (λ (o : ℕ). IsGiven limits word o c.in_ok-body-in-Turns.body) (add-one c.args.depth) h, tt))
    (opened_gives w (codes "[") c.args.tokens.now c.take_way.new.tokens c.take_bracket.new.tokens c.args.names.now c.args.depth n refl refl room c.in_ok-way.ensures.ok opened
    (standing c.turns.new.tokens c.turns.new.names) (λ word. seq_pieces word c.in_ok-body-in-Turns.body ++ codes "]" ∷ codes "*" ∷ []) (λ word. IsGiven limits word (c.args.depth + 1) c.in_ok-body-in-Turns.body) c.in_ok-body-in-Turns.ensures.reads)

pub maybe-returns-then-sees-clause-fault : goal.maybe-returns-then-sees-clause-fault
maybe-returns-then-sees-clause-fault t c =
    let x = c.args.tokens.now in
    if_err_map c.seq.result (Stops (λ ds. proto (seq c.args.depth) ∷ ds) c.args.items.now (standing c.args.tokens.now c.args.names.now)) (Stops (λ ds. proto (maybe c.args.depth) ∷ ds) c.args.items.now (standing c.args.tokens.now c.args.names.now))
    (λ e st. elim c.then-sees.branch [
      | maybe-then-sees-via-then-sees w ↦ stops_map (λ ds. proto (seq c.args.depth) ∷ ds) (λ ds. proto (maybe c.args.depth) ∷ ds) c.args.items.now c.args.items.now _ _ e (λ f st ds. maybe_stuck Out x c.args.names.now c.args.depth c.args.items.now ds f (sym c.sees.ensures ∙ w.if-sees.true) (st ds)) st
      | maybe-then-sees-via-else-sees+then-sees-2 w ↦ stops_map (λ ds. proto (seq c.args.depth) ∷ ds) (λ ds. proto (maybe c.args.depth) ∷ ds) c.args.items.now c.args.items.now _ _ e (λ f st ds. maybe_stuck Into x c.args.names.now c.args.depth c.args.items.now ds f (sym w.sees-else-sees.ensures ∙ w.if-sees-2.true) (st ds)) st
    ]) c.seq.ensures.fault

pub one_arm-returns-in_err-label-clause-fault : goal.one_arm-returns-in_err-label-clause-fault
one_arm-returns-in_err-label-clause-fault t c =
    err_as _ c.in_err-label.field-0.0 _ c.from_residual.ensures.1
    (on_fault_map (Refuses (but_name (nat_le 16 c.args.before)) c.args.tokens.now) (λ f. (ds : List Due) → Stuck file_layer limits c.args.items.now (standing c.args.tokens.now c.args.names.now) (proto (label c.args.before) ∷ proto (fixed (codes ":")) ∷ proto (maybe c.args.depth) ∷ ds) f) c.in_err-label.field-0.0
    (λ f h ds. refuses_stuck file_layer limits (but_name (nat_le 16 c.args.before)) c.args.items.now (standing c.args.tokens.now c.args.names.now) (proto (label c.args.before) ∷ proto (fixed (codes ":")) ∷ proto (maybe c.args.depth) ∷ ds) f refl (label_rule c.args.before c.args.items.now (proto (fixed (codes ":")) ∷ proto (maybe c.args.depth) ∷ ds)) h)
    c.in_err-label.ensures.fault)

pub one_arm-returns-in_err-expect-clause-fault : goal.one_arm-returns-in_err-expect-clause-fault
one_arm-returns-in_err-expect-clause-fault t c =
    let f = c.in_err-expect.field-0.0 in
    err_as _ (refusals.At f) _ c.from_residual-in_err-expect.ensures.1
    (λ ds. label_stuck (standing c.args.tokens.now c.args.names.now) (standing c.take_name.new.tokens c.take_name.new.names) c.in_ok-label.label c.args.before c.args.items.now (proto (fixed (codes ":")) ∷ proto (maybe c.args.depth) ∷ ds) f c.in_ok-label.ensures.reads (leb-false 16 c.args.before c.in_ok-label.ensures.allowed)
    (refuses_stuck file_layer limits (but (codes ":")) c.args.items.now (standing c.take_name.new.tokens c.take_name.new.names) (proto (fixed (codes ":")) ∷ proto (maybe c.args.depth) ∷ ds) f refl (piece_rule (codes ":") c.args.items.now (proto (maybe c.args.depth) ∷ ds) refl) c.in_err-expect.ensures.fault))

pub one_arm-returns-in_err-rest-clause-fault : goal.one_arm-returns-in_err-rest-clause-fault
one_arm-returns-in_err-rest-clause-fault t c =
    let there = standing c.take_name.new.tokens c.take_name.new.names in
    let behind = standing c.expect.new.self c.take_name.new.names in
    err_as _ c.in_err-rest.field-0.0 _ c.from_residual-in_err-rest.ensures.1
    (stops_map (λ ds. proto (maybe c.args.depth) ∷ ds) (λ ds. proto (label c.args.before) ∷ proto (fixed (codes ":")) ∷ proto (maybe c.args.depth) ∷ ds) c.args.items.now c.args.items.now behind (standing c.args.tokens.now c.args.names.now) c.in_err-rest.field-0.0
    (λ f st ds. label_stuck (standing c.args.tokens.now c.args.names.now) (standing c.take_name.new.tokens c.take_name.new.names) c.in_ok-label.label c.args.before c.args.items.now (proto (fixed (codes ":")) ∷ proto (maybe c.args.depth) ∷ ds) f c.in_ok-label.ensures.reads (leb-false 16 c.args.before c.in_ok-label.ensures.allowed)
    (stuck_cons file_layer limits c.args.items.now c.args.items.now there behind (codes ":") (proto (fixed (codes ":")) ∷ proto (maybe c.args.depth) ∷ ds) (proto (maybe c.args.depth) ∷ ds) f (plain c.take_name.new.tokens c.expect.new.self c.take_name.new.names (codes ":") refl refl c.in_ok-expect.ensures.ok) refl (st ds)))
    c.in_err-rest.ensures.fault)

pub one_arm-returns-clause-reads : goal.one_arm-returns-clause-reads
one_arm-returns-clause-reads t c =
    let there = standing c.take_name.new.tokens c.take_name.new.names in
    let behind = standing c.expect.new.self c.take_name.new.names in
    let end = standing c.maybe.new.tokens c.maybe.new.names in
    let l = c.in_ok-label.label in
    let p = c.in_ok-rest.rest in
    let colon = plain c.take_name.new.tokens c.expect.new.self c.take_name.new.names (codes ":") refl refl c.in_ok-expect.ensures.ok in
    Gives-as (standing c.args.tokens.now c.args.names.now) end (λ word. word l ∷ codes ":" ∷ seq_pieces word p) (λ word. word l ∷ codes ":" ∷ seq_pieces word p)
    (λ word. IsNamed limits word l × IsGiven limits word c.args.depth p) (λ word. AreGiven limits word c.args.depth c.args.before (arm l p no_choice)) (λ word. refl) (λ word h. ((leb-false 16 c.args.before c.in_ok-label.ensures.allowed), h.0, h.1, tt))
    (Gives-append (standing c.args.tokens.now c.args.names.now) there end (λ word. word l ∷ []) (λ word. codes ":" ∷ seq_pieces word p) (λ word. IsNamed limits word l) (λ word. IsGiven limits word c.args.depth p) c.in_ok-label.ensures.reads
    (Gives-cons there behind end (codes ":") (λ word. seq_pieces word p) (λ word. IsGiven limits word c.args.depth p) colon c.in_ok-rest.ensures.reads))

pub turns-returns-in_err-expect-clause-fault : goal.turns-returns-in_err-expect-clause-fault
turns-returns-in_err-expect-clause-fault t c =
    let f = c.in_err-expect.field-0.0 in
    err_as _ (refusals.At f) _ c.from_residual-in_err-expect.ensures.1
    (λ ds. leads_maybe (standing c.args.tokens.now c.args.names.now) (standing c.maybe.new.tokens c.maybe.new.names) c.in_ok-body.body c.args.depth c.args.items.now c.maybe.new.items (proto (fixed (codes "]")) ∷ proto (fixed (codes "*")) ∷ ds) f c.in_ok-body.ensures.reads c.in_ok-body.ensures.leaves.count c.in_ok-body.ensures.leaves.few c.in_ok-body.ensures.ends
    (refuses_stuck file_layer limits (but (codes "]")) c.maybe.new.items (standing c.maybe.new.tokens c.maybe.new.names) (proto (fixed (codes "]")) ∷ proto (fixed (codes "*")) ∷ ds) f refl (piece_rule (codes "]") c.maybe.new.items (proto (fixed (codes "*")) ∷ ds) refl) c.in_err-expect.ensures.fault))

pub turns-returns-in_err-expect-2-clause-fault : goal.turns-returns-in_err-expect-2-clause-fault
turns-returns-in_err-expect-2-clause-fault t c =
    let f = c.in_err-expect-2.field-0.0 in
    err_as _ (refusals.At f) _ c.from_residual-in_err-expect-2.ensures.1
    (λ ds. leads_maybe (standing c.args.tokens.now c.args.names.now) (standing c.maybe.new.tokens c.maybe.new.names) c.in_ok-body.body c.args.depth c.args.items.now c.maybe.new.items (proto (fixed (codes "]")) ∷ proto (fixed (codes "*")) ∷ ds) f c.in_ok-body.ensures.reads c.in_ok-body.ensures.leaves.count c.in_ok-body.ensures.leaves.few c.in_ok-body.ensures.ends
    (stuck_cons file_layer limits c.maybe.new.items c.maybe.new.items (standing c.maybe.new.tokens c.maybe.new.names) (standing c.expect.new.self c.maybe.new.names) (codes "]") (proto (fixed (codes "]")) ∷ proto (fixed (codes "*")) ∷ ds) (proto (fixed (codes "*")) ∷ ds) f (plain c.maybe.new.tokens c.expect.new.self c.maybe.new.names (codes "]") refl refl c.in_ok-expect.ensures.ok) refl
    (refuses_stuck file_layer limits (but (codes "*")) c.maybe.new.items (standing c.expect.new.self c.maybe.new.names) (proto (fixed (codes "*")) ∷ ds) f refl (piece_rule (codes "*") c.maybe.new.items ds refl) c.in_err-expect-2.ensures.fault)))

pub turns-returns-clause-reads : goal.turns-returns-clause-reads
turns-returns-clause-reads t c =
    let p = c.in_ok-body.body in
    let star = takes_one (standing c.expect.new.self c.maybe.new.names) (standing c.expect-2.new.self c.maybe.new.names) (codes "*") (plain c.expect.new.self c.expect-2.new.self c.maybe.new.names (codes "*") refl refl c.in_ok-expect-2.ensures.ok) in
    let both = Gives-cons (standing c.maybe.new.tokens c.maybe.new.names) (standing c.expect.new.self c.maybe.new.names) (standing c.expect-2.new.self c.maybe.new.names) (codes "]") (λ word. codes "*" ∷ []) (λ word. Unit {0}) (plain c.maybe.new.tokens c.expect.new.self c.maybe.new.names (codes "]") refl refl c.in_ok-expect.ensures.ok) star in
    Gives-as (standing c.args.tokens.now c.args.names.now) (standing c.expect-2.new.self c.maybe.new.names) (λ word. seq_pieces word p ++ codes "]" ∷ codes "*" ∷ []) (λ word. seq_pieces word p ++ codes "]" ∷ codes "*" ∷ []) (λ word. IsGiven limits word c.args.depth p × Unit {0}) (λ word. IsGiven limits word c.args.depth p)
    (λ word. refl) (λ word h. h.0)
    (Gives-append (standing c.args.tokens.now c.args.names.now) (standing c.maybe.new.tokens c.maybe.new.names) (standing c.expect-2.new.self c.maybe.new.names) (λ word. seq_pieces word p) (λ word. codes "]" ∷ codes "*" ∷ []) (λ word. IsGiven limits word c.args.depth p) (λ word. Unit {0}) c.in_ok-body.ensures.reads both)

pub seq-returns-in_err-item-clause-fault : goal.seq-returns-in_err-item-clause-fault
seq-returns-in_err-item-clause-fault t c =
    err_as _ c.in_err-item.field-0.0 _ c.from_residual.ensures.1
    (stops_map (λ ds. proto (seq c.args.depth) ∷ ds) (λ ds. proto (seq c.args.depth) ∷ ds) c.loop-list.items c.args.items.now (standing c.loop-list.tokens c.loop-list.names) (standing c.args.tokens.now c.args.names.now) c.in_err-item.field-0.0 (λ f st ds. c.loop-list.invariant.back ds f (st ds)) c.in_err-item.ensures.fault)

pub seq-returns-then-not-accept-clause-reads : goal.seq-returns-then-not-accept-clause-reads
seq-returns-then-not-accept-clause-reads t c =
    subst (λ (r : Reading). Gives (standing c.args.tokens.now c.args.names.now) (standing r c.item.new.names) (λ word. seq_pieces word (place_of c.push.new.self.items)) (λ word. IsGiven limits word c.args.depth (place_of c.push.new.self.items))) (sym (c.accept.ensures.left c.if-not-accept.true))
    (subst (λ (xs : List Item). Gives (standing c.args.tokens.now c.args.names.now) (standing c.item.new.tokens c.item.new.names) (λ word. seq_pieces word (place_of xs)) (λ word. IsGiven limits word c.args.depth (place_of xs))) (sym c.in_ok-push.ensures.items)
    (item_more (standing c.args.tokens.now c.args.names.now) (standing c.loop-list.tokens c.loop-list.names) (standing c.item.new.tokens c.item.new.names) c.loop-list.list.items c.in_ok-item.field-0 c.args.depth c.loop-list.invariant.reads c.in_ok-item.ensures.reads))

pub seq-returns-then-not-accept-clause-leaves : goal.seq-returns-then-not-accept-clause-leaves
seq-returns-then-not-accept-clause-leaves t c =
    record {
      onward = advances_on c.loop-list.invariant.onward (advances_on c.item.ensures.leaves.onward c.accept.ensures.onward);
      kept = kept_on c.loop-list.invariant.kept c.item.ensures.leaves.kept;
      room = omega (arith, c.in_ok-item.ensures.leaves.room, c.accept.ensures.onward.onward, c.loop-list.invariant.room);
      count = rw c.in_ok-push.ensures.items (omega (arith, item_count-push c.loop-list.list.items c.in_ok-item.field-0, c.in_ok-item.ensures.leaves.count, c.loop-list.invariant.count));
      few = c.in_ok-item.ensures.leaves.few;
    }

pub seq-loop-list-preserved : goal.seq-loop-list-preserved
seq-loop-list-preserved t c =
    let dot : Takes (standing c.item.new.tokens c.item.new.names) (codes ".") (standing c.accept.new.self c.item.new.names) = plain c.item.new.tokens c.accept.new.self c.item.new.names (codes ".") refl refl (c.accept.ensures.taken c.if-not-accept.false) in
    record {
      reads = subst (λ (xs : List Item). Gives (standing c.args.tokens.now c.args.names.now) (standing c.accept.new.self c.item.new.names) (λ word. drop 1 (dotted word (place_of xs) ++ codes "." ∷ [])) (λ word. IsGiven limits word c.args.depth (place_of xs))) (sym c.in_ok-push.ensures.items)
          (item_and_dot (standing c.args.tokens.now c.args.names.now) (standing c.loop-list.tokens c.loop-list.names) (standing c.item.new.tokens c.item.new.names) (standing c.accept.new.self c.item.new.names) c.loop-list.list.items c.in_ok-item.field-0 c.args.depth c.loop-list.invariant.reads c.in_ok-item.ensures.reads dot);
      count = rw c.in_ok-push.ensures.items (omega (arith, item_count-push c.loop-list.list.items c.in_ok-item.field-0, c.in_ok-item.ensures.leaves.count, c.loop-list.invariant.count));
      few = c.in_ok-item.ensures.leaves.few;
      room = omega (arith, c.in_ok-item.ensures.leaves.room, c.accept.ensures.shorter c.if-not-accept.false, c.loop-list.invariant.room);
      kept = kept_on c.loop-list.invariant.kept c.item.ensures.leaves.kept;
      onward = advances_on c.loop-list.invariant.onward (advances_on c.item.ensures.leaves.onward c.accept.ensures.onward);
      back = λ ds f st. c.loop-list.invariant.back ds f
          (item_stuck (standing c.loop-list.tokens c.loop-list.names) (standing c.item.new.tokens c.item.new.names) (standing c.accept.new.self c.item.new.names) c.in_ok-item.field-0 c.args.depth c.loop-list.items c.item.new.items ds f c.in_ok-item.ensures.reads c.in_ok-item.ensures.leaves.count c.in_ok-item.ensures.leaves.few dot st);
    }

pub choices-returns-in_err-one_arm-clause-fault : goal.choices-returns-in_err-one_arm-clause-fault
choices-returns-in_err-one_arm-clause-fault t c =
    let long : c.len-before.result ≡ (length c.loop-list.list.items) = c.len-before.ensures ∙ c.loop-list.list.ok.0 in
    err_as _ c.in_err-one_arm.field-0.0 _ c.from_residual.ensures.1
    (stops_map (λ ds. proto (label c.len-before.result) ∷ proto (fixed (codes ":")) ∷ proto (maybe c.args.depth) ∷ ds) (λ ds. proto (label 0) ∷ proto (fixed (codes ":")) ∷ proto (maybe c.args.depth) ∷ proto (arms c.args.depth 1) ∷ proto (fixed (codes "}")) ∷ ds) c.loop-list.items c.args.items.now (standing c.loop-list.tokens c.loop-list.names) (standing c.args.tokens.now c.args.names.now) c.in_err-one_arm.field-0.0
    (λ f st ds. c.loop-list.invariant.back ds f (subst (λ (j : ℕ). Stuck file_layer limits c.loop-list.items (standing c.loop-list.tokens c.loop-list.names) (proto (label j) ∷ proto (fixed (codes ":")) ∷ proto (maybe c.args.depth) ∷ proto (arms c.args.depth (suc (length c.loop-list.list.items))) ∷ proto (fixed (codes "}")) ∷ ds) f) long
    (st (proto (arms c.args.depth (suc (length c.loop-list.list.items))) ∷ proto (fixed (codes "}")) ∷ ds))))
    c.in_err-one_arm.ensures.fault)

pub choices-returns-in_err-expect-clause-fault : goal.choices-returns-in_err-expect-clause-fault
choices-returns-in_err-expect-clause-fault t c =
    let long : c.len-before.result ≡ (length c.loop-list.list.items) = c.len-before.ensures ∙ c.loop-list.list.ok.0 in
    let f = c.in_err-expect.field-0.0 in
    let passes : Passes file_layer (proto (arms c.args.depth (suc (length c.loop-list.list.items)))) (next_of c.one_arm.new.tokens.ahead) = no_comma (next_of c.one_arm.new.tokens.ahead) c.args.depth (suc (length c.loop-list.list.items)) (sym c.accept.ensures.answer ∙ c.if-not-accept.true) in
    let refuses : Refuses (but (codes "}")) c.one_arm.new.tokens f = subst (λ (r : Reading). Refuses (but (codes "}")) r f) (c.accept.ensures.left c.if-not-accept.true) c.in_err-expect.ensures.fault in
    err_as _ (refusals.At f) _ c.from_residual-in_err-expect.ensures.1
    (λ ds. c.loop-list.invariant.back ds f
    (arm_stuck (standing c.loop-list.tokens c.loop-list.names) (standing c.one_arm.new.tokens c.one_arm.new.names) c.in_ok-one_arm.field-0.label c.in_ok-one_arm.field-0.rest c.args.depth (length c.loop-list.list.items) c.loop-list.items c.one_arm.new.items (proto (arms c.args.depth (suc (length c.loop-list.list.items))) ∷ proto (fixed (codes "}")) ∷ ds) f
    (subst (λ (j : ℕ). Gives (standing c.loop-list.tokens c.loop-list.names) (standing c.one_arm.new.tokens c.one_arm.new.names) (λ word. arm_pieces word c.in_ok-one_arm.field-0) (λ word. AreGiven limits word c.args.depth j (arm c.in_ok-one_arm.field-0.label c.in_ok-one_arm.field-0.rest no_choice))) long c.in_ok-one_arm.ensures.reads)
    c.in_ok-one_arm.ensures.leaves.count c.in_ok-one_arm.ensures.leaves.few c.in_ok-one_arm.ensures.ends
    (skip file_layer limits c.one_arm.new.items (standing c.one_arm.new.tokens c.one_arm.new.names) (proto (arms c.args.depth (suc (length c.loop-list.list.items)))) (proto (fixed (codes "}")) ∷ ds) f refl passes (refuses_stuck file_layer limits (but (codes "}")) c.one_arm.new.items (standing c.one_arm.new.tokens c.one_arm.new.names) (proto (fixed (codes "}")) ∷ ds) f refl (piece_rule (codes "}") c.one_arm.new.items ds refl) refuses))))

pub choices-returns-then-not-accept-clause-reads : goal.choices-returns-then-not-accept-clause-reads
choices-returns-then-not-accept-clause-reads t c =
    let long : c.len-before.result ≡ (length c.loop-list.list.items) = c.len-before.ensures ∙ c.loop-list.list.ok.0 in
    let brace : Takes (standing c.one_arm.new.tokens c.one_arm.new.names) (codes "}") (standing c.expect.new.self c.one_arm.new.names) = plain c.one_arm.new.tokens c.expect.new.self c.one_arm.new.names (codes "}") refl refl (from_left _ _ _ _ (c.accept.ensures.left c.if-not-accept.true) c.in_ok-expect.ensures.ok) in
    subst (λ (xs : List Arm). Gives (standing c.args.tokens.now c.args.names.now) (standing c.expect.new.self c.one_arm.new.names) (λ word. drop 1 (listed word (choices_of xs)) ++ codes "}" ∷ []) (λ word. AreGiven limits word c.args.depth 0 (choices_of xs))) (sym c.in_ok-push.ensures.items)
    (arm_and (standing c.args.tokens.now c.args.names.now) (standing c.loop-list.tokens c.loop-list.names) (standing c.one_arm.new.tokens c.one_arm.new.names) (standing c.expect.new.self c.one_arm.new.names) c.loop-list.list.items c.in_ok-one_arm.field-0 c.args.depth c.len-before.result long c.loop-list.invariant.reads c.in_ok-one_arm.ensures.reads (codes "}") brace)

pub choices-returns-then-not-accept-clause-some : goal.choices-returns-then-not-accept-clause-some
choices-returns-then-not-accept-clause-some t c =
    rw c.in_ok-push.ensures.items (some_arms c.loop-list.list.items c.in_ok-one_arm.field-0)

pub choices-returns-then-not-accept-clause-leaves : goal.choices-returns-then-not-accept-clause-leaves
choices-returns-then-not-accept-clause-leaves t c =
    record {
      onward = advances_on c.loop-list.invariant.onward (advances_on c.one_arm.ensures.leaves.onward (advances_on c.accept.ensures.onward c.expect.ensures.onward));
      kept = kept_on c.loop-list.invariant.kept c.one_arm.ensures.leaves.kept;
      room = omega (arith, c.in_ok-one_arm.ensures.leaves.room, c.accept.ensures.onward.onward, c.expect.ensures.onward.onward, c.loop-list.invariant.room);
      count = rw c.in_ok-push.ensures.items (omega (arith, arm_items-push c.loop-list.list.items c.in_ok-one_arm.field-0, c.in_ok-one_arm.ensures.leaves.count, c.loop-list.invariant.count));
      few = c.in_ok-one_arm.ensures.leaves.few;
    }

pub choices-loop-list-preserved : goal.choices-loop-list-preserved
choices-loop-list-preserved t c =
    let long : c.len-before.result ≡ (length c.loop-list.list.items) = c.len-before.ensures ∙ c.loop-list.list.ok.0 in
    let comma : Takes (standing c.one_arm.new.tokens c.one_arm.new.names) (codes ",") (standing c.accept.new.self c.one_arm.new.names) = plain c.one_arm.new.tokens c.accept.new.self c.one_arm.new.names (codes ",") refl refl (c.accept.ensures.taken c.if-not-accept.false) in
    let more_long : length c.push.new.self.items ≡ suc (length c.loop-list.list.items) = rw c.in_ok-push.ensures.items (omega (arith, length-append c.loop-list.list.items (c.in_ok-one_arm.field-0 ∷ []))) in
    record {
      reads = subst (λ (xs : List Arm). Gives (standing c.args.tokens.now c.args.names.now) (standing c.accept.new.self c.one_arm.new.names) (λ word. drop 1 (listed word (choices_of xs) ++ codes "," ∷ [])) (λ word. AreGiven limits word c.args.depth 0 (choices_of xs))) (sym c.in_ok-push.ensures.items)
          (arm_and_comma (standing c.args.tokens.now c.args.names.now) (standing c.loop-list.tokens c.loop-list.names) (standing c.one_arm.new.tokens c.one_arm.new.names) (standing c.accept.new.self c.one_arm.new.names) c.loop-list.list.items c.in_ok-one_arm.field-0 c.args.depth c.len-before.result long c.loop-list.invariant.reads c.in_ok-one_arm.ensures.reads comma);
      count = rw c.in_ok-push.ensures.items (omega (arith, arm_items-push c.loop-list.list.items c.in_ok-one_arm.field-0, c.in_ok-one_arm.ensures.leaves.count, c.loop-list.invariant.count));
      few = c.in_ok-one_arm.ensures.leaves.few;
      room = omega (arith, c.in_ok-one_arm.ensures.leaves.room, c.accept.ensures.shorter c.if-not-accept.false, c.loop-list.invariant.room);
      kept = kept_on c.loop-list.invariant.kept c.one_arm.ensures.leaves.kept;
      onward = advances_on c.loop-list.invariant.onward (advances_on c.one_arm.ensures.leaves.onward c.accept.ensures.onward);
      back = λ ds f st. c.loop-list.invariant.back ds f
          (arm_stuck (standing c.loop-list.tokens c.loop-list.names) (standing c.one_arm.new.tokens c.one_arm.new.names) c.in_ok-one_arm.field-0.label c.in_ok-one_arm.field-0.rest c.args.depth (length c.loop-list.list.items) c.loop-list.items c.one_arm.new.items (proto (arms c.args.depth (suc (length c.loop-list.list.items))) ∷ proto (fixed (codes "}")) ∷ ds) f
          (subst (λ (j : ℕ). Gives (standing c.loop-list.tokens c.loop-list.names) (standing c.one_arm.new.tokens c.one_arm.new.names) (λ word. arm_pieces word c.in_ok-one_arm.field-0) (λ word. AreGiven limits word c.args.depth j (arm c.in_ok-one_arm.field-0.label c.in_ok-one_arm.field-0.rest no_choice))) long c.in_ok-one_arm.ensures.reads)
          c.in_ok-one_arm.ensures.leaves.count c.in_ok-one_arm.ensures.leaves.few c.in_ok-one_arm.ensures.ends
          (stuck_cons file_layer limits c.one_arm.new.items c.one_arm.new.items (standing c.one_arm.new.tokens c.one_arm.new.names) (standing c.accept.new.self c.one_arm.new.names) (codes ",") (proto (arms c.args.depth (suc (length c.loop-list.list.items))) ∷ proto (fixed (codes "}")) ∷ ds) (proto (label (suc (length c.loop-list.list.items))) ∷ proto (fixed (codes ":")) ∷ proto (maybe c.args.depth) ∷ proto (arms c.args.depth (suc (suc (length c.loop-list.list.items)))) ∷ proto (fixed (codes "}")) ∷ ds) f comma refl (subst (λ (j : ℕ). Stuck file_layer limits c.one_arm.new.items (standing c.accept.new.self c.one_arm.new.names) (proto (label j) ∷ proto (fixed (codes ":")) ∷ proto (maybe c.args.depth) ∷ proto (arms c.args.depth (suc j)) ∷ proto (fixed (codes "}")) ∷ ds) f) more_long st)));
    }
