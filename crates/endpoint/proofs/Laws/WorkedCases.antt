-- The worked cases hold: both columns compute to the same.
use Rattle.std.specs.Prelude.{refl}
use Rattle.wire.specs.Bytes.{be, be_at, part}
use Rattle.wire.specs.Sum.{total, ones, pseudo, complement}
use Rattle.wire.specs.Checks as Checks
use Rattle.wire.specs.Ipv4 as I
use Rattle.wire.specs.Udp.{udp}
use Rattle.wire.specs.Vxlan.{vxlan}
use Rattle.wire.specs.Nvgre.{gre, nvgre_checks, nvgre_at, nvgre_of}
use Rattle.wire.specs.Refusal.{finding_of}
use Rattle.wire.specs.Inner.{carries_ipv4, carries_ipv6, transport_by, over_ipv4, transport_of, hints_of}
use Rattle.wire.specs.Stt.{stt}
use Rattle.wire.specs.Segment as S
use Rattle.wire.specs.Write.{ipv4_with, outer, ipv4_head, packet, source_port_of, vxlan_body, nvgre_body, stt_frame, flags_of, tcp_with, segment_header}
use Rattle.wire.specs.Write.{segment_bytes}
use Rattle.wire.specs.Write.{segment_body, vxlan_packet, nvgre_packet, segment_packet}
use Rattle.reassembly.specs.Base.{all_below}
use Rattle.reassembly.specs.Slots.{first, bears, is_free_slot}
use Rattle.reassembly.specs.Take.{chosen, rejection_code}
use Rattle.reassembly.specs.Store.{is_on, bit_at, set_bit, set_bits}
use Rattle.endpoint.specs.Wrap.{segments_of, packet_of}
use Rattle.endpoint.specs.WorkedCases.{Worked, cases}

pub worked : Worked
unfolding cases rejection_code finding_of Checks.first total ones be be_at I.header complement udp vxlan gre nvgre_checks nvgre_at nvgre_of ipv4_with outer ipv4_head
    packet source_port_of vxlan_body nvgre_body vxlan_packet nvgre_packet carries_ipv4 carries_ipv6 transport_by over_ipv4 transport_of
    hints_of stt stt_frame flags_of tcp_with S.header pseudo part segment_header segment_bytes segment_body
    segment_packet all_below first bears is_free_slot chosen is_on bit_at set_bit set_bits segments_of packet_of
worked = refl
