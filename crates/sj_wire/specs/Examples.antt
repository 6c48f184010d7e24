-- Frames of the format, computed from the definitions.
use Rattle.std.specs.Prelude.{◌≡◌, pos, [], ◌∷◌, None, refl}
use Rattle.sj_base.specs.declared.EndId.{EndId}
use Rattle.sj_base.specs.declared.Msg.TheVariants as msgs
use Rattle.sj_rules.specs.Record.{Carry, Fin, Give, Open}
use Rattle.sj_table.specs.declared.table.Spot.{Spot}
use Rattle.sj_wire.specs.Limits.{nowhere}
use Rattle.sj_wire.specs.declared.refusal.WireRefusal.TheVariants as refusals
use Rattle.sj_wire.specs.Front.{Cut, Refused, Whole, front_of, sized_of, whole_of}
use Rattle.sj_wire.specs.Reading.{frame_at, limited_at, number_at, end_id_at, flag_at, body_at, carry_at, fin_at, counts_at, give_at, open_at, message_at, messages_at, value_at, resend_at}
use Rattle.sj_wire.specs.Spelling.{number, end_id, message, flag, resend, counts, body, inside, framed, spelling}

abbrev first : EndId
first = record { sess = 0; side = 1 }

a_carry : spelling {P = Spot} (record { clock = 1; body = Carry first 0 0 0 (msgs.Int (pos 5)) })
    ≡ 0 ∷ 0 ∷ 0 ∷ 36 ∷ 1 ∷ 1 ∷ 0 ∷ 0 ∷ 0 ∷ 0 ∷ 0 ∷ 0 ∷ 0 ∷ 1 ∷ 0 ∷ 0 ∷ 0 ∷ 0 ∷ 1 ∷ 0 ∷ 0 ∷ 0 ∷ 0 ∷ 0 ∷ 0 ∷ 0 ∷ 0 ∷ 0 ∷ 0 ∷ 0 ∷ 0 ∷ 0 ∷ 0 ∷ 0 ∷ 0 ∷ 0 ∷ 0 ∷ 0 ∷ 0 ∷ 5 ∷ []
unfolding spelling framed inside body message end_id number
a_carry = refl

a_fin : spelling {P = Spot} (record { clock = 3; body = Fin first 0 1 })
    ≡ 0 ∷ 0 ∷ 0 ∷ 23 ∷ 1 ∷ 2 ∷ 0 ∷ 0 ∷ 0 ∷ 0 ∷ 0 ∷ 0 ∷ 0 ∷ 3 ∷ 0 ∷ 0 ∷ 0 ∷ 0 ∷ 1 ∷ 0 ∷ 0 ∷ 0 ∷ 0 ∷ 0 ∷ 0 ∷ 0 ∷ 1 ∷ []
unfolding spelling framed inside body end_id number
a_fin = refl

a_give : spelling {P = Spot} (record { clock = 13; body = Give (record { id = first; place = nowhere; conn = 1; peer = 0; sent = 0; taken = 1; base = 0; cache = []; hops = 1 }) None })
    ≡ 0 ∷ 0 ∷ 0 ∷ 35 ∷ 1 ∷ 6 ∷ 0 ∷ 0 ∷ 0 ∷ 0 ∷ 0 ∷ 0 ∷ 0 ∷ 13 ∷ 0 ∷ 0 ∷ 0 ∷ 0 ∷ 1 ∷ 0 ∷ 0 ∷ 0 ∷ 1 ∷ 0 ∷ 0 ∷ 0 ∷ 0 ∷ 0 ∷ 0 ∷ 0 ∷ 0 ∷ 0 ∷ 1 ∷ 1 ∷ 0 ∷ 0 ∷ 0 ∷ 0 ∷ 0 ∷ []
unfolding spelling framed inside body counts resend flag end_id number
a_give = refl

an_open : spelling {P = Spot} (record { clock = 1; body = Open 64 }) ≡ 0 ∷ 0 ∷ 0 ∷ 15 ∷ 2 ∷ 7 ∷ 0 ∷ 0 ∷ 0 ∷ 0 ∷ 0 ∷ 0 ∷ 0 ∷ 1 ∷ 0 ∷ 0 ∷ 0 ∷ 64 ∷ 1 ∷ []
unfolding spelling framed inside body end_id number
an_open = refl

length_14 : front_of (0 ∷ 0 ∷ 0 ∷ 14 ∷ 1 ∷ 1 ∷ 0 ∷ 0 ∷ 0 ∷ 0 ∷ 0 ∷ 0 ∷ 0 ∷ 1 ∷ 0 ∷ 0 ∷ 0 ∷ 0 ∷ 1 ∷ 0 ∷ 0 ∷ 0 ∷ 0 ∷ 0 ∷ 0 ∷ 0 ∷ 0 ∷ 0 ∷ 0 ∷ 0 ∷ 0 ∷ 0 ∷ 0 ∷ 0 ∷ 0 ∷ 0 ∷ 0 ∷ 0 ∷ 0 ∷ 5 ∷ []) ≡ Refused refusals.Length
unfolding front_of sized_of whole_of frame_at limited_at number_at end_id_at flag_at body_at carry_at fin_at counts_at give_at message_at messages_at value_at resend_at
length_14 = refl

length_2097153 : front_of (0 ∷ 32 ∷ 0 ∷ 1 ∷ 1 ∷ 6 ∷ 0 ∷ 0 ∷ 0 ∷ 0 ∷ []) ≡ Refused refusals.Length
unfolding front_of sized_of whole_of frame_at limited_at number_at end_id_at flag_at body_at carry_at fin_at counts_at give_at message_at messages_at value_at resend_at
length_2097153 = refl

version_3 : front_of (0 ∷ 0 ∷ 0 ∷ 36 ∷ 3 ∷ 1 ∷ 0 ∷ 0 ∷ 0 ∷ 0 ∷ 0 ∷ 0 ∷ 0 ∷ 1 ∷ 0 ∷ 0 ∷ 0 ∷ 0 ∷ 1 ∷ 0 ∷ 0 ∷ 0 ∷ 0 ∷ 0 ∷ 0 ∷ 0 ∷ 0 ∷ 0 ∷ 0 ∷ 0 ∷ 0 ∷ 0 ∷ 0 ∷ 0 ∷ 0 ∷ 0 ∷ 0 ∷ 0 ∷ 0 ∷ 5 ∷ []) ≡ Refused refusals.Version
unfolding front_of sized_of whole_of frame_at limited_at number_at end_id_at flag_at body_at carry_at fin_at counts_at give_at message_at messages_at value_at resend_at
version_3 = refl

kind_9 : front_of (0 ∷ 0 ∷ 0 ∷ 36 ∷ 1 ∷ 9 ∷ 0 ∷ 0 ∷ 0 ∷ 0 ∷ 0 ∷ 0 ∷ 0 ∷ 1 ∷ 0 ∷ 0 ∷ 0 ∷ 0 ∷ 1 ∷ 0 ∷ 0 ∷ 0 ∷ 0 ∷ 0 ∷ 0 ∷ 0 ∷ 0 ∷ 0 ∷ 0 ∷ 0 ∷ 0 ∷ 0 ∷ 0 ∷ 0 ∷ 0 ∷ 0 ∷ 0 ∷ 0 ∷ 0 ∷ 5 ∷ []) ≡ Refused refusals.Kind
unfolding front_of sized_of whole_of frame_at limited_at number_at end_id_at flag_at body_at carry_at fin_at counts_at give_at message_at messages_at value_at resend_at
kind_9 = refl

a_carry_of_version_2 : front_of (0 ∷ 0 ∷ 0 ∷ 36 ∷ 2 ∷ 1 ∷ 0 ∷ 0 ∷ 0 ∷ 0 ∷ 0 ∷ 0 ∷ 0 ∷ 1 ∷ 0 ∷ 0 ∷ 0 ∷ 0 ∷ 1 ∷ 0 ∷ 0 ∷ 0 ∷ 0 ∷ 0 ∷ 0 ∷ 0 ∷ 0 ∷ 0 ∷ 0 ∷ 0 ∷ 0 ∷ 0 ∷ 0 ∷ 0 ∷ 0 ∷ 0 ∷ 0 ∷ 0 ∷ 0 ∷ 5 ∷ []) ≡ Refused refusals.Kind
unfolding front_of sized_of whole_of frame_at limited_at number_at end_id_at flag_at body_at carry_at fin_at counts_at give_at message_at messages_at value_at resend_at open_at
a_carry_of_version_2 = refl

an_open_of_version_1 : front_of (0 ∷ 0 ∷ 0 ∷ 15 ∷ 1 ∷ 7 ∷ 0 ∷ 0 ∷ 0 ∷ 0 ∷ 0 ∷ 0 ∷ 0 ∷ 1 ∷ 0 ∷ 0 ∷ 0 ∷ 64 ∷ 1 ∷ []) ≡ Refused refusals.Kind
unfolding front_of sized_of whole_of frame_at limited_at number_at end_id_at flag_at body_at carry_at fin_at counts_at give_at message_at messages_at value_at resend_at open_at
an_open_of_version_1 = refl

an_open_for_side_0 : front_of (0 ∷ 0 ∷ 0 ∷ 15 ∷ 2 ∷ 7 ∷ 0 ∷ 0 ∷ 0 ∷ 0 ∷ 0 ∷ 0 ∷ 0 ∷ 1 ∷ 0 ∷ 0 ∷ 0 ∷ 64 ∷ 0 ∷ []) ≡ Refused refusals.Value
unfolding front_of sized_of whole_of frame_at limited_at number_at end_id_at flag_at body_at carry_at fin_at counts_at give_at message_at messages_at value_at resend_at open_at
an_open_for_side_0 = refl

an_open_is_read : front_of (0 ∷ 0 ∷ 0 ∷ 15 ∷ 2 ∷ 7 ∷ 0 ∷ 0 ∷ 0 ∷ 0 ∷ 0 ∷ 0 ∷ 0 ∷ 1 ∷ 0 ∷ 0 ∷ 0 ∷ 64 ∷ 1 ∷ []) ≡ Whole (record { clock = 1; body = Open 64 }) []
unfolding front_of sized_of whole_of frame_at limited_at number_at end_id_at flag_at body_at carry_at fin_at counts_at give_at message_at messages_at value_at resend_at open_at
an_open_is_read = refl

side_2 : front_of (0 ∷ 0 ∷ 0 ∷ 23 ∷ 1 ∷ 2 ∷ 0 ∷ 0 ∷ 0 ∷ 0 ∷ 0 ∷ 0 ∷ 0 ∷ 3 ∷ 0 ∷ 0 ∷ 0 ∷ 0 ∷ 2 ∷ 0 ∷ 0 ∷ 0 ∷ 0 ∷ 0 ∷ 0 ∷ 0 ∷ 1 ∷ []) ≡ Refused refusals.Value
unfolding front_of sized_of whole_of frame_at limited_at number_at end_id_at flag_at body_at carry_at fin_at counts_at give_at message_at messages_at value_at resend_at
side_2 = refl

tag_6 : front_of (0 ∷ 0 ∷ 0 ∷ 36 ∷ 1 ∷ 1 ∷ 0 ∷ 0 ∷ 0 ∷ 0 ∷ 0 ∷ 0 ∷ 0 ∷ 1 ∷ 0 ∷ 0 ∷ 0 ∷ 0 ∷ 1 ∷ 0 ∷ 0 ∷ 0 ∷ 0 ∷ 0 ∷ 0 ∷ 0 ∷ 0 ∷ 0 ∷ 0 ∷ 0 ∷ 0 ∷ 6 ∷ 0 ∷ 0 ∷ 0 ∷ 0 ∷ 0 ∷ 0 ∷ 0 ∷ 5 ∷ []) ≡ Refused refusals.Value
unfolding front_of sized_of whole_of frame_at limited_at number_at end_id_at flag_at body_at carry_at fin_at counts_at give_at message_at messages_at value_at resend_at
tag_6 = refl

flag_2 : front_of (0 ∷ 0 ∷ 0 ∷ 35 ∷ 1 ∷ 6 ∷ 0 ∷ 0 ∷ 0 ∷ 0 ∷ 0 ∷ 0 ∷ 0 ∷ 13 ∷ 0 ∷ 0 ∷ 0 ∷ 0 ∷ 1 ∷ 0 ∷ 0 ∷ 0 ∷ 1 ∷ 0 ∷ 0 ∷ 0 ∷ 0 ∷ 0 ∷ 0 ∷ 0 ∷ 0 ∷ 0 ∷ 1 ∷ 1 ∷ 0 ∷ 0 ∷ 0 ∷ 0 ∷ 2 ∷ []) ≡ Refused refusals.Value
unfolding front_of sized_of whole_of frame_at limited_at number_at end_id_at flag_at body_at carry_at fin_at counts_at give_at message_at messages_at value_at resend_at
flag_2 = refl

one_cached_of_none : front_of (0 ∷ 0 ∷ 0 ∷ 35 ∷ 1 ∷ 6 ∷ 0 ∷ 0 ∷ 0 ∷ 0 ∷ 0 ∷ 0 ∷ 0 ∷ 13 ∷ 0 ∷ 0 ∷ 0 ∷ 0 ∷ 1 ∷ 0 ∷ 0 ∷ 0 ∷ 1 ∷ 0 ∷ 0 ∷ 0 ∷ 0 ∷ 0 ∷ 0 ∷ 0 ∷ 0 ∷ 0 ∷ 1 ∷ 1 ∷ 0 ∷ 0 ∷ 0 ∷ 1 ∷ 0 ∷ []) ≡ Refused refusals.Value
unfolding front_of sized_of whole_of frame_at limited_at number_at end_id_at flag_at body_at carry_at fin_at counts_at give_at message_at messages_at value_at resend_at
one_cached_of_none = refl

resent_below_the_base : front_of (0 ∷ 0 ∷ 0 ∷ 48 ∷ 1 ∷ 6 ∷ 0 ∷ 0 ∷ 0 ∷ 0 ∷ 0 ∷ 0 ∷ 0 ∷ 13 ∷ 0 ∷ 0 ∷ 0 ∷ 0 ∷ 1 ∷ 0 ∷ 0 ∷ 0 ∷ 1 ∷ 0 ∷ 0 ∷ 0 ∷ 0 ∷ 0 ∷ 2 ∷ 0 ∷ 0 ∷ 0 ∷ 1 ∷ 1 ∷ 0 ∷ 0 ∷ 0 ∷ 1 ∷ 0 ∷ 0 ∷ 0 ∷ 0 ∷ 0 ∷ 0 ∷ 0 ∷ 0 ∷ 5 ∷ 1 ∷ 0 ∷ 0 ∷ 0 ∷ 0 ∷ []) ≡ Refused refusals.Value
unfolding front_of sized_of whole_of frame_at limited_at number_at end_id_at flag_at body_at carry_at fin_at counts_at give_at message_at messages_at value_at resend_at
resent_below_the_base = refl

cut : front_of (0 ∷ 0 ∷ 0 ∷ 35 ∷ 1 ∷ 6 ∷ 0 ∷ 0 ∷ 0 ∷ 0 ∷ []) ≡ Cut
unfolding front_of sized_of whole_of frame_at limited_at number_at end_id_at flag_at body_at carry_at fin_at counts_at give_at message_at messages_at value_at resend_at
cut = refl

a_fin_is_read : front_of (0 ∷ 0 ∷ 0 ∷ 23 ∷ 1 ∷ 2 ∷ 0 ∷ 0 ∷ 0 ∷ 0 ∷ 0 ∷ 0 ∷ 0 ∷ 3 ∷ 0 ∷ 0 ∷ 0 ∷ 0 ∷ 1 ∷ 0 ∷ 0 ∷ 0 ∷ 0 ∷ 0 ∷ 0 ∷ 0 ∷ 1 ∷ []) ≡ Whole (record { clock = 3; body = Fin first 0 1 }) []
unfolding front_of sized_of whole_of frame_at limited_at number_at end_id_at flag_at body_at carry_at fin_at counts_at give_at message_at messages_at value_at resend_at
a_fin_is_read = refl
