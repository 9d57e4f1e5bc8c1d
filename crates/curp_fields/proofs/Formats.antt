-- Each format of the table of messages reads what it encodes, and encodes what it reads.
use Rattle.std.proofs.Common.{◌≡◌, ℕ, refl}
use Rattle.std.proofs.lemmas.Bool.{le-leb, leb-true}
use Rattle.curp_base.specs.Words.{last_of}
use Rattle.curp_items.proofs.Combining.{Again, IsFormat, IsOrder, SoundVariants, fields_again, list_of_is, listed_is, nothing_is, one_of_is, only_is, optional_is, shaped_is, then_by_is, then_is, variant_sound}
use Rattle.curp_items.proofs.Formats.{answer_is, bounds_is, entry_is, id_is, node_is, package_is, request_is, truth_is, u32_is, u64_is}
use Rattle.curp_items.specs.Format.{list_of, nothing, optional, ◌▸◌}
use Rattle.curp_items.specs.Items.{answer, bounds, entry, id, node, package_format, request, truth, u32, u64}
use Rattle.curp_msg.specs.declared.answer.AppendAnswer.TheVariants as append
use Rattle.curp_msg.specs.declared.answer.FenceReply.TheVariants as fence
use Rattle.curp_msg.specs.declared.answer.GcAnswer.TheVariants as collection
use Rattle.curp_msg.specs.declared.answer.Reason.TheVariants as reason
use Rattle.curp_msg.specs.declared.answer.Refusal.TheVariants as refusal
use Rattle.curp_msg.specs.declared.body.Body.TheVariants as body
use Rattle.curp_range.specs.Spans.{Span, SpansAscend}
use Rattle.curp_fields.proofs.SpanLists.{spans-prefix, spans-last, spans-push}
use Rattle.curp_fields.specs.Fields.{accepted_fields, accepted_made, accepted_parts, adopted_fields, adopted_made, adopted_parts, append_answer, append_fields, append_fields_of, append_made, append_parts, append_variants, appended_fields, appended_made, appended_parts, ask_fields, ask_made, ask_parts, body_parts, body_variants, collected_fields, collected_made, collected_parts, collection_answer, collection_parts, collection_variants, config_fields, config_made, config_parts, entries, fence_answer_fields, fence_answer_made, fence_answer_parts, fence_parts, fence_reply, fence_variants, gc_fields, gc_made, gc_parts, ids, least_after, nodes, parcel_fields, parcel_made, parcel_parts, part_fields, part_made, part_parts, prepare_fields, prepare_made, prepare_parts, probe_fields, probe_made, probe_parts, probed_fields, probed_made, probed_parts, quick_fields, quick_made, quick_parts, reason_format, reason_parts, reason_variants, record_fields, record_made, record_parts, recover_fields, recover_made, recover_parts, recovered_fields, recovered_made, recovered_parts, refusal_format, refusal_parts, refusal_variants, refuse_fields, refuse_made, refuse_parts, rejected_fields, rejected_made, rejected_parts, reply_fields, reply_made, reply_parts, requests, span_from, spans, start_fields, start_made, start_parts, take_out_fields, take_out_made, take_out_parts, worth_fields, worth_made, worth_parts}

pub ids_are : IsFormat ids
unfolding ids
ids_are = list_of_is u32 id u32_is id_is

pub requests_are : IsFormat requests
unfolding requests
requests_are = list_of_is u32 request u32_is request_is

pub entries_are : IsFormat entries
unfolding entries
entries_are = list_of_is u32 entry u32_is entry_is

pub nodes_are : IsFormat nodes
unfolding nodes
nodes_are = list_of_is u32 node u32_is node_is

refusal_sound : SoundVariants refusal_parts refusal_variants
refusal_sound = (
  variant_sound refusal_parts 1 u32 refusal.Version (λ y. refl) u32_is,
  (
    variant_sound refusal_parts 2 u32 refusal.Epoch (λ y. refl) u32_is,
    (
      variant_sound refusal_parts 3 nothing (λ x. refusal.NotOwner) (λ y. refl) nothing_is,
      (
        variant_sound refusal_parts 4 u32 refusal.Stale (λ y. refl) u32_is,
        (
          variant_sound refusal_parts 5 nothing (λ x. refusal.InProgress) (λ y. refl) nothing_is,
          (
            variant_sound refusal_parts 6 nothing (λ x. refusal.Expired) (λ y. refl) nothing_is,
            (
              variant_sound refusal_parts 7 nothing (λ x. refusal.Switching) (λ y. refl) nothing_is,
              tt,
            ),
          ),
        ),
      ),
    ),
  ),
)

refusal_again : Again refusal_parts refusal_variants
refusal_again (refusal.Version current) start place rest fits = fields_again 1 u32 refusal.Version u32_is current place rest fits
refusal_again (refusal.Epoch current) start place rest fits = fields_again 2 u32 refusal.Epoch u32_is current place rest fits
refusal_again refusal.NotOwner start place rest fits = fields_again 3 nothing (λ x. refusal.NotOwner) nothing_is tt place rest fits
refusal_again (refusal.Stale first) start place rest fits = fields_again 4 u32 refusal.Stale u32_is first place rest fits
refusal_again refusal.InProgress start place rest fits = fields_again 5 nothing (λ x. refusal.InProgress) nothing_is tt place rest fits
refusal_again refusal.Expired start place rest fits = fields_again 6 nothing (λ x. refusal.Expired) nothing_is tt place rest fits
refusal_again refusal.Switching start place rest fits = fields_again 7 nothing (λ x. refusal.Switching) nothing_is tt place rest fits

pub refusal_is : IsFormat refusal_format
unfolding refusal_format
refusal_is = one_of_is refusal_parts refusal_variants refusal_sound refusal_again

reason_sound : SoundVariants reason_parts reason_variants
reason_sound = (
  variant_sound reason_parts 1 id reason.Conflict (λ y. refl) id_is,
  (
    variant_sound reason_parts 2 u32 reason.SetFull (λ y. refl) u32_is,
    (
      variant_sound reason_parts 3 nothing (λ x. reason.Frozen) (λ y. refl) nothing_is,
      (
        variant_sound reason_parts 4 u32 reason.Stranger (λ y. refl) u32_is,
        (
          variant_sound reason_parts 5 nothing (λ x. reason.Idle) (λ y. refl) nothing_is,
          tt,
        ),
      ),
    ),
  ),
)

reason_again : Again reason_parts reason_variants
reason_again (reason.Conflict held) start place rest fits = fields_again 1 id reason.Conflict id_is held place rest fits
reason_again (reason.SetFull set) start place rest fits = fields_again 2 u32 reason.SetFull u32_is set place rest fits
reason_again reason.Frozen start place rest fits = fields_again 3 nothing (λ x. reason.Frozen) nothing_is tt place rest fits
reason_again (reason.Stranger epoch) start place rest fits = fields_again 4 u32 reason.Stranger u32_is epoch place rest fits
reason_again reason.Idle start place rest fits = fields_again 5 nothing (λ x. reason.Idle) nothing_is tt place rest fits

pub reason_is : IsFormat reason_format
unfolding reason_format
reason_is = one_of_is reason_parts reason_variants reason_sound reason_again

append_answer_sound : SoundVariants append_parts append_variants
append_answer_sound = (
  variant_sound append_parts 0 u64 append.Stored (λ y. refl) u64_is,
  (
    variant_sound append_parts 1 u32 append.Fenced (λ y. refl) u32_is,
    (
      variant_sound append_parts 2 u64 append.Gap (λ y. refl) u64_is,
      (
        variant_sound append_parts 3 nothing (λ x. append.NotInstalled) (λ y. refl) nothing_is,
        tt,
      ),
    ),
  ),
)

append_answer_again : Again append_parts append_variants
append_answer_again (append.Stored length) start place rest fits = fields_again 0 u64 append.Stored u64_is length place rest fits
append_answer_again (append.Fenced epoch) start place rest fits = fields_again 1 u32 append.Fenced u32_is epoch place rest fits
append_answer_again (append.Gap length) start place rest fits = fields_again 2 u64 append.Gap u64_is length place rest fits
append_answer_again append.NotInstalled start place rest fits = fields_again 3 nothing (λ x. append.NotInstalled) nothing_is tt place rest fits

pub append_answer_is : IsFormat append_answer
unfolding append_answer
append_answer_is = one_of_is append_parts append_variants append_answer_sound append_answer_again

collection_sound : SoundVariants collection_parts collection_variants
collection_sound = (
  variant_sound collection_parts 0 requests collection.Suspects (λ y. refl) requests_are,
  (
    variant_sound collection_parts 1 (optional u32) collection.Stranger (λ y. refl) (optional_is u32 u32_is),
    tt,
  ),
)

collection_again : Again collection_parts collection_variants
collection_again (collection.Suspects suspects) start place rest fits = fields_again 0 requests collection.Suspects requests_are suspects place rest fits
collection_again (collection.Stranger epoch) start place rest fits = fields_again 1 (optional u32) collection.Stranger (optional_is u32 u32_is) epoch place rest fits

pub collection_is : IsFormat collection_answer
unfolding collection_answer
collection_is = one_of_is collection_parts collection_variants collection_sound collection_again

fence_reply_sound : SoundVariants fence_parts fence_variants
fence_reply_sound = (
  variant_sound fence_parts 0 entries fence.Log (λ y. refl) entries_are,
  (
    variant_sound fence_parts 1 u32 fence.Fenced (λ y. refl) u32_is,
    tt,
  ),
)

fence_reply_again : Again fence_parts fence_variants
fence_reply_again (fence.Log log) start place rest fits = fields_again 0 entries fence.Log entries_are log place rest fits
fence_reply_again (fence.Fenced epoch) start place rest fits = fields_again 1 u32 fence.Fenced u32_is epoch place rest fits

pub fence_reply_is : IsFormat fence_reply
unfolding fence_reply
fence_reply_is = one_of_is fence_parts fence_variants fence_reply_sound fence_reply_again

spans_order : IsOrder (u64 ▸ u64) SpansAscend (λ before. span_from (least_after (last_of before)))
unfolding span_from u64
spans_order = record {
  empty = tt;
  prefix = spans-prefix;
  grows = λ before s asc f. ((f.0.0, f.1.0), spans-push before s asc (leb-true _ _ f.0.1) (leb-true _ _ f.1.1) f.1.0);
  shrinks = λ before s asc f.
      let l = spans-last before s asc in
      ((f.0, le-leb _ _ l.0), (f.1, le-leb _ _ l.1));
}

span_from_is : (least : ℕ) → IsFormat (span_from least)
unfolding span_from
span_from_is least = then_by_is _ _ (only_is _ _ u64_is) (λ lo. only_is _ _ u64_is)

span_alike : (least : ℕ) (s : Span) → (span_from least).of s ≡ (u64 ▸ u64).of s
unfolding span_from
span_alike least s = refl

pub spans_are : IsFormat spans
unfolding spans
spans_are = listed_is (u64 ▸ u64) SpansAscend (λ before. span_from (least_after (last_of before))) spans_order (λ before. span_from_is (least_after (last_of before))) (λ before s. span_alike (least_after (last_of before)) s) u32 u32_is

pub part_fields_are : IsFormat part_fields
unfolding part_fields
part_fields_are = shaped_is part_made part_parts (u32 ▸ u32 ▸ u32 ▸ node ▸ nodes ▸ nodes ▸ spans) (λ x. refl) (λ y. refl) (then_is u32 (u32 ▸ u32 ▸ node ▸ nodes ▸ nodes ▸ spans) u32_is (then_is u32 (u32 ▸ node ▸ nodes ▸ nodes ▸ spans) u32_is (then_is u32 (node ▸ nodes ▸ nodes ▸ spans) u32_is (then_is node (nodes ▸ nodes ▸ spans) node_is (then_is nodes (nodes ▸ spans) nodes_are (then_is nodes spans nodes_are spans_are))))))

pub config_fields_are : IsFormat config_fields
unfolding config_fields
config_fields_are = shaped_is config_made config_parts (u32 ▸ list_of u32 part_fields) (λ x. refl) (λ y. refl) (then_is u32 (list_of u32 part_fields) u32_is (list_of_is u32 part_fields u32_is part_fields_are))

pub ask_fields_are : IsFormat ask_fields
unfolding ask_fields
ask_fields_are = shaped_is ask_made ask_parts (request ▸ u32 ▸ u32) (λ x. refl) (λ y. refl) (then_is request (u32 ▸ u32) request_is (then_is u32 u32 u32_is u32_is))

pub record_fields_are : IsFormat record_fields
unfolding record_fields
record_fields_are = shaped_is record_made record_parts (request ▸ u32) (λ x. refl) (λ y. refl) (then_is request u32 request_is u32_is)

pub reply_fields_are : IsFormat reply_fields
unfolding reply_fields
reply_fields_are = shaped_is reply_made reply_parts (id ▸ truth ▸ u32 ▸ u32 ▸ answer) (λ x. refl) (λ y. refl) (then_is id (truth ▸ u32 ▸ u32 ▸ answer) id_is (then_is truth (u32 ▸ u32 ▸ answer) truth_is (then_is u32 (u32 ▸ answer) u32_is (then_is u32 answer u32_is answer_is))))

pub worth_fields_are : IsFormat worth_fields
unfolding worth_fields
worth_fields_are = shaped_is worth_made worth_parts (id ▸ u32 ▸ u64 ▸ answer) (λ x. refl) (λ y. refl) (then_is id (u32 ▸ u64 ▸ answer) id_is (then_is u32 (u64 ▸ answer) u32_is (then_is u64 answer u64_is answer_is)))

pub refuse_fields_are : IsFormat refuse_fields
unfolding refuse_fields
refuse_fields_are = shaped_is refuse_made refuse_parts (id ▸ refusal_format) (λ x. refl) (λ y. refl) (then_is id refusal_format id_is refusal_is)

pub accepted_fields_are : IsFormat accepted_fields
unfolding accepted_fields
accepted_fields_are = shaped_is accepted_made accepted_parts (id ▸ u32) (λ x. refl) (λ y. refl) (then_is id u32 id_is u32_is)

pub rejected_fields_are : IsFormat rejected_fields
unfolding rejected_fields
rejected_fields_are = shaped_is rejected_made rejected_parts (id ▸ reason_format) (λ x. refl) (λ y. refl) (then_is id reason_format id_is reason_is)

pub probe_fields_are : IsFormat probe_fields
unfolding probe_fields
probe_fields_are = shaped_is probe_made probe_parts (id ▸ u32) (λ x. refl) (λ y. refl) (then_is id u32 id_is u32_is)

pub probed_fields_are : IsFormat probed_fields
unfolding probed_fields
probed_fields_are = shaped_is probed_made probed_parts (id ▸ u32 ▸ truth) (λ x. refl) (λ y. refl) (then_is id (u32 ▸ truth) id_is (then_is u32 truth u32_is truth_is))

pub quick_fields_are : IsFormat quick_fields
unfolding quick_fields
quick_fields_are = shaped_is quick_made quick_parts (id ▸ u32 ▸ u32 ▸ u64 ▸ answer) (λ x. refl) (λ y. refl) (then_is id (u32 ▸ u32 ▸ u64 ▸ answer) id_is (then_is u32 (u32 ▸ u64 ▸ answer) u32_is (then_is u32 (u64 ▸ answer) u32_is (then_is u64 answer u64_is answer_is))))

pub append_fields_are : IsFormat append_fields
unfolding append_fields
append_fields_are = shaped_is append_made append_fields_of (u32 ▸ u64 ▸ u64 ▸ entries) (λ x. refl) (λ y. refl) (then_is u32 (u64 ▸ u64 ▸ entries) u32_is (then_is u64 (u64 ▸ entries) u64_is (then_is u64 entries u64_is entries_are)))

pub appended_fields_are : IsFormat appended_fields
unfolding appended_fields
appended_fields_are = shaped_is appended_made appended_parts (u32 ▸ u64 ▸ append_answer) (λ x. refl) (λ y. refl) (then_is u32 (u64 ▸ append_answer) u32_is (then_is u64 append_answer u64_is append_answer_is))

pub gc_fields_are : IsFormat gc_fields
unfolding gc_fields
gc_fields_are = shaped_is gc_made gc_parts (u32 ▸ ids) (λ x. refl) (λ y. refl) (then_is u32 ids u32_is ids_are)

pub collected_fields_are : IsFormat collected_fields
unfolding collected_fields
collected_fields_are = shaped_is collected_made collected_parts (u32 ▸ collection_answer) (λ x. refl) (λ y. refl) (then_is u32 collection_answer u32_is collection_is)

pub fence_answer_fields_are : IsFormat fence_answer_fields
unfolding fence_answer_fields
fence_answer_fields_are = shaped_is fence_answer_made fence_answer_parts (u32 ▸ fence_reply) (λ x. refl) (λ y. refl) (then_is u32 fence_reply u32_is fence_reply_is)

pub start_fields_are : IsFormat start_fields
unfolding start_fields
start_fields_are = shaped_is start_made start_parts (u32 ▸ u32) (λ x. refl) (λ y. refl) (then_is u32 u32 u32_is u32_is)

pub recover_fields_are : IsFormat recover_fields
unfolding recover_fields
recover_fields_are = shaped_is recover_made recover_parts (u32 ▸ u32 ▸ u32 ▸ node ▸ node ▸ nodes ▸ nodes ▸ bounds) (λ x. refl) (λ y. refl) (then_is u32 (u32 ▸ u32 ▸ node ▸ node ▸ nodes ▸ nodes ▸ bounds) u32_is (then_is u32 (u32 ▸ node ▸ node ▸ nodes ▸ nodes ▸ bounds) u32_is (then_is u32 (node ▸ node ▸ nodes ▸ nodes ▸ bounds) u32_is (then_is node (node ▸ nodes ▸ nodes ▸ bounds) node_is (then_is node (nodes ▸ nodes ▸ bounds) node_is (then_is nodes (nodes ▸ bounds) nodes_are (then_is nodes bounds nodes_are bounds_is)))))))

pub recovered_fields_are : IsFormat recovered_fields
unfolding recovered_fields
recovered_fields_are = shaped_is recovered_made recovered_parts (u32 ▸ u32) (λ x. refl) (λ y. refl) (then_is u32 u32 u32_is u32_is)

pub adopted_fields_are : IsFormat adopted_fields
unfolding adopted_fields
adopted_fields_are = shaped_is adopted_made adopted_parts (u32 ▸ u32 ▸ u32) (λ x. refl) (λ y. refl) (then_is u32 (u32 ▸ u32) u32_is (then_is u32 u32 u32_is u32_is))

pub prepare_fields_are : IsFormat prepare_fields
unfolding prepare_fields
prepare_fields_are = shaped_is prepare_made prepare_parts (u32 ▸ nodes ▸ nodes) (λ x. refl) (λ y. refl) (then_is u32 (nodes ▸ nodes) u32_is (then_is nodes nodes nodes_are nodes_are))

pub take_out_fields_are : IsFormat take_out_fields
unfolding take_out_fields
take_out_fields_are = shaped_is take_out_made take_out_parts (u32 ▸ bounds) (λ x. refl) (λ y. refl) (then_is u32 bounds u32_is bounds_is)

pub parcel_fields_are : IsFormat parcel_fields
unfolding parcel_fields
parcel_fields_are = shaped_is parcel_made parcel_parts (u32 ▸ package_format) (λ x. refl) (λ y. refl) (then_is u32 package_format u32_is package_is)

-- ---- bodies

pub bodies_sound : SoundVariants body_parts body_variants
bodies_sound = (
  variant_sound body_parts 1 ask_fields body.Update (λ y. refl) ask_fields_are,
  (
    variant_sound body_parts 2 ask_fields body.Sync (λ y. refl) ask_fields_are,
    (
      variant_sound body_parts 3 ask_fields body.Read (λ y. refl) ask_fields_are,
      (
        variant_sound body_parts 4 record_fields body.Record (λ y. refl) record_fields_are,
        (
          variant_sound body_parts 5 nothing (λ x. body.Fetch) (λ y. refl) nothing_is,
          (
            variant_sound body_parts 6 config_fields body.Configuration (λ y. refl) config_fields_are,
            (
              variant_sound body_parts 7 reply_fields body.Reply (λ y. refl) reply_fields_are,
              (
                variant_sound body_parts 8 worth_fields body.Worth (λ y. refl) worth_fields_are,
                (
                  variant_sound body_parts 9 refuse_fields body.Refuse (λ y. refl) refuse_fields_are,
                  (
                    variant_sound body_parts 10 accepted_fields body.Accepted (λ y. refl) accepted_fields_are,
                    (
                      variant_sound body_parts 11 rejected_fields body.Rejected (λ y. refl) rejected_fields_are,
                      (
                        variant_sound body_parts 12 append_fields body.Append (λ y. refl) append_fields_are,
                        (
                          variant_sound body_parts 13 appended_fields body.Appended (λ y. refl) appended_fields_are,
                          (
                            variant_sound body_parts 14 gc_fields body.Gc (λ y. refl) gc_fields_are,
                            (
                              variant_sound body_parts 15 collected_fields body.Collected (λ y. refl) collected_fields_are,
                              (
                                variant_sound body_parts 16 u32 body.Install (λ y. refl) u32_is,
                                (
                                  variant_sound body_parts 17 start_fields body.Start (λ y. refl) start_fields_are,
                                  (
                                    variant_sound body_parts 18 recover_fields body.Recover (λ y. refl) recover_fields_are,
                                    (
                                      variant_sound body_parts 19 u32 body.Fence (λ y. refl) u32_is,
                                      (
                                        variant_sound body_parts 20 fence_answer_fields body.FenceAnswer (λ y. refl) fence_answer_fields_are,
                                        (
                                          variant_sound body_parts 21 u32 body.Freeze (λ y. refl) u32_is,
                                          (
                                            variant_sound body_parts 22 requests body.FrozenAnswer (λ y. refl) requests_are,
                                            (
                                              variant_sound body_parts 23 recovered_fields body.Recovered (λ y. refl) recovered_fields_are,
                                              (
                                                variant_sound body_parts 24 adopted_fields body.Adopted (λ y. refl) adopted_fields_are,
                                                (
                                                  variant_sound body_parts 25 prepare_fields body.Prepare (λ y. refl) prepare_fields_are,
                                                  (
                                                    variant_sound body_parts 26 u32 body.Prepared (λ y. refl) u32_is,
                                                    (
                                                      variant_sound body_parts 27 take_out_fields body.TakeOut (λ y. refl) take_out_fields_are,
                                                      (
                                                        variant_sound body_parts 28 parcel_fields body.Taken (λ y. refl) parcel_fields_are,
                                                        (
                                                          variant_sound body_parts 29 parcel_fields body.GiveIn (λ y. refl) parcel_fields_are,
                                                          (
                                                            variant_sound body_parts 30 u32 body.Given (λ y. refl) u32_is,
                                                            (
                                                              variant_sound body_parts 31 u32 body.ExpireClient (λ y. refl) u32_is,
                                                              (
                                                                variant_sound body_parts 32 probe_fields body.Probe (λ y. refl) probe_fields_are,
                                                                (
                                                                  variant_sound body_parts 33 probed_fields body.Probed (λ y. refl) probed_fields_are,
                                                                  (
                                                                    variant_sound body_parts 34 ask_fields body.Glance (λ y. refl) ask_fields_are,
                                                                    (
                                                                      variant_sound body_parts 35 quick_fields body.Quick (λ y. refl) quick_fields_are,
                                                                      tt,
                                                                    ),
                                                                  ),
                                                                ),
                                                              ),
                                                            ),
                                                          ),
                                                        ),
                                                      ),
                                                    ),
                                                  ),
                                                ),
                                              ),
                                            ),
                                          ),
                                        ),
                                      ),
                                    ),
                                  ),
                                ),
                              ),
                            ),
                          ),
                        ),
                      ),
                    ),
                  ),
                ),
              ),
            ),
          ),
        ),
      ),
    ),
  ),
)

pub bodies_again : Again body_parts body_variants
bodies_again (body.Update ask) start place rest fits = fields_again 1 ask_fields body.Update ask_fields_are ask place rest fits
bodies_again (body.Sync ask) start place rest fits = fields_again 2 ask_fields body.Sync ask_fields_are ask place rest fits
bodies_again (body.Read ask) start place rest fits = fields_again 3 ask_fields body.Read ask_fields_are ask place rest fits
bodies_again (body.Record r) start place rest fits = fields_again 4 record_fields body.Record record_fields_are r place rest fits
bodies_again body.Fetch start place rest fits = fields_again 5 nothing (λ x. body.Fetch) nothing_is tt place rest fits
bodies_again (body.Configuration config) start place rest fits = fields_again 6 config_fields body.Configuration config_fields_are config place rest fits
bodies_again (body.Reply reply) start place rest fits = fields_again 7 reply_fields body.Reply reply_fields_are reply place rest fits
bodies_again (body.Worth worth) start place rest fits = fields_again 8 worth_fields body.Worth worth_fields_are worth place rest fits
bodies_again (body.Refuse refuse) start place rest fits = fields_again 9 refuse_fields body.Refuse refuse_fields_are refuse place rest fits
bodies_again (body.Accepted accepted) start place rest fits = fields_again 10 accepted_fields body.Accepted accepted_fields_are accepted place rest fits
bodies_again (body.Rejected rejected) start place rest fits = fields_again 11 rejected_fields body.Rejected rejected_fields_are rejected place rest fits
bodies_again (body.Append a) start place rest fits = fields_again 12 append_fields body.Append append_fields_are a place rest fits
bodies_again (body.Appended appended) start place rest fits = fields_again 13 appended_fields body.Appended appended_fields_are appended place rest fits
bodies_again (body.Gc gc) start place rest fits = fields_again 14 gc_fields body.Gc gc_fields_are gc place rest fits
bodies_again (body.Collected collected) start place rest fits = fields_again 15 collected_fields body.Collected collected_fields_are collected place rest fits
bodies_again (body.Install epoch) start place rest fits = fields_again 16 u32 body.Install u32_is epoch place rest fits
bodies_again (body.Start s) start place rest fits = fields_again 17 start_fields body.Start start_fields_are s place rest fits
bodies_again (body.Recover recover) start place rest fits = fields_again 18 recover_fields body.Recover recover_fields_are recover place rest fits
bodies_again (body.Fence epoch) start place rest fits = fields_again 19 u32 body.Fence u32_is epoch place rest fits
bodies_again (body.FenceAnswer f) start place rest fits = fields_again 20 fence_answer_fields body.FenceAnswer fence_answer_fields_are f place rest fits
bodies_again (body.Freeze epoch) start place rest fits = fields_again 21 u32 body.Freeze u32_is epoch place rest fits
bodies_again (body.FrozenAnswer held) start place rest fits = fields_again 22 requests body.FrozenAnswer requests_are held place rest fits
bodies_again (body.Recovered recovered) start place rest fits = fields_again 23 recovered_fields body.Recovered recovered_fields_are recovered place rest fits
bodies_again (body.Adopted adopted) start place rest fits = fields_again 24 adopted_fields body.Adopted adopted_fields_are adopted place rest fits
bodies_again (body.Prepare prepare) start place rest fits = fields_again 25 prepare_fields body.Prepare prepare_fields_are prepare place rest fits
bodies_again (body.Prepared version) start place rest fits = fields_again 26 u32 body.Prepared u32_is version place rest fits
bodies_again (body.TakeOut take) start place rest fits = fields_again 27 take_out_fields body.TakeOut take_out_fields_are take place rest fits
bodies_again (body.Taken parcel) start place rest fits = fields_again 28 parcel_fields body.Taken parcel_fields_are parcel place rest fits
bodies_again (body.GiveIn parcel) start place rest fits = fields_again 29 parcel_fields body.GiveIn parcel_fields_are parcel place rest fits
bodies_again (body.Given migration) start place rest fits = fields_again 30 u32 body.Given u32_is migration place rest fits
bodies_again (body.ExpireClient client) start place rest fits = fields_again 31 u32 body.ExpireClient u32_is client place rest fits
bodies_again (body.Probe probe) start place rest fits = fields_again 32 probe_fields body.Probe probe_fields_are probe place rest fits
bodies_again (body.Probed probed) start place rest fits = fields_again 33 probed_fields body.Probed probed_fields_are probed place rest fits
bodies_again (body.Glance ask) start place rest fits = fields_again 34 ask_fields body.Glance ask_fields_are ask place rest fits
bodies_again (body.Quick quick) start place rest fits = fields_again 35 quick_fields body.Quick quick_fields_are quick place rest fits
