-- A worked run, computed through the definitions of every layer: what the set-up of PossibleRun holds, what becomes of each packet of its run, and what each
-- frame is worth.
use Rattle.std.specs.Prelude.{◌≡◌, refl, true, false, replicate, Ok, Err}
use Rattle.wire.specs.Checks.{first}
use Rattle.wire.specs.Bytes.{be, be_at, part}
use Rattle.wire.specs.Sum.{total, ones, pseudo}
use Rattle.wire.specs.Ipv4.{ipv4_checks, ipv4_at, ipv4_of}
use Rattle.wire.specs.Udp.{udp_sum, udp_checks, udp_of}
use Rattle.wire.specs.Vxlan.{vxlan_checks, vxlan_at, vxlan_of}
use Rattle.wire.specs.Segment.{segment_checks, segment_at, segment_of}
use Rattle.wire.specs.Inner.{carries_ipv4, carries_ipv6, carries_transport}
use Rattle.wire.specs.Stt.{contradicts, stt_checks, stt_of}
use Rattle.wire.specs.Frame.{frame_checks, frame_of}
use Rattle.wire.specs.Carriage.{carriage_of}
use Rattle.wire.specs.Refusal.{finding_of}
use Rattle.wire.specs.declared.refusal.Refusal.TheVariants as F
use Rattle.reassembly.specs.Base.{all_below, table}
use Rattle.reassembly.specs.Slots.{Note, no_mark}
use Rattle.reassembly.specs.Receive.{other_sender, direct, segment, good}
use Rattle.reassembly.specs.Mix.{part_of, states}
use Rattle.reassembly.proofs.Laws.MixTest.{mixes}
use Rattle.reassembly.proofs.Laws.OneByOne.{turns}
use Rattle.endpoint.specs.Search.{from, lowest}
use Rattle.endpoint.specs.Config.{config_of, has_address, find_peer, binds, find_binding, fresh, start_checks, start_of, add_peer_checks, with_address}
use Rattle.endpoint.specs.Config.{add_peer_of}
use Rattle.endpoint.specs.Config.{is_network, add_binding_checks, with_binding, add_binding_of, added, added_all, set_up}
use Rattle.endpoint.specs.Receive.{inner_from, tunnel_from, header_of, stt_from, judge_of}
use Rattle.endpoint.specs.declared.answer.Drop.TheVariants as D
use Rattle.endpoint.specs.declared.answer.Received.TheVariants as R
use Rattle.endpoint.proofs.Laws.PossibleRun.{ready, listed, frame-a, frame-b, frame-c, frame-d, frames, own-packet, broken-packet, vxlan-packet}
use Rattle.endpoint.proofs.Laws.PossibleRun.{rival_packet, stray_packet, mixed, turn}

-- ---- the set-up

pub ready_config : config_of ready ≡ listed
unfolding first config_of from lowest has_address find_peer binds find_binding fresh start_checks start_of add_peer_checks with_address add_peer_of is_network
    add_binding_checks with_binding add_binding_of added added_all set_up
ready_config = refl

-- ---- the segments of peer 0's frames: each packet is sound, and states its frame's length, its offset and its identifier

pub read_a0 : header_of listed (part_of frame-a 0).packet ≡ segment 0 (states frame-a 0)
unfolding first states header_of ipv4_checks ipv4_at ipv4_of be be_at part total ones pseudo segment_checks segment_at segment_of carriage_of from lowest has_address
    find_peer
read_a0 = refl

pub read_a1 : header_of listed (part_of frame-a 1).packet ≡ segment 0 (states frame-a 1)
unfolding first states header_of ipv4_checks ipv4_at ipv4_of be be_at part total ones pseudo segment_checks segment_at segment_of carriage_of from lowest has_address
    find_peer
read_a1 = refl

pub read_b0 : header_of listed (part_of frame-b 0).packet ≡ segment 0 (states frame-b 0)
unfolding first states header_of ipv4_checks ipv4_at ipv4_of be be_at part total ones pseudo segment_checks segment_at segment_of carriage_of from lowest has_address
    find_peer
read_b0 = refl

pub read_b1 : header_of listed (part_of frame-b 1).packet ≡ segment 0 (states frame-b 1)
unfolding first states header_of ipv4_checks ipv4_at ipv4_of be be_at part total ones pseudo segment_checks segment_at segment_of carriage_of from lowest has_address
    find_peer
read_b1 = refl

pub read_c0 : header_of listed (part_of frame-c 0).packet ≡ segment 0 (states frame-c 0)
unfolding first states header_of ipv4_checks ipv4_at ipv4_of be be_at part total ones pseudo segment_checks segment_at segment_of carriage_of from lowest has_address
    find_peer
read_c0 = refl

pub read_c1 : header_of listed (part_of frame-c 1).packet ≡ segment 0 (states frame-c 1)
unfolding first states header_of ipv4_checks ipv4_at ipv4_of be be_at part total ones pseudo segment_checks segment_at segment_of carriage_of from lowest has_address
    find_peer
read_c1 = refl

pub read_d0 : header_of listed (part_of frame-d 0).packet ≡ segment 0 (states frame-d 0)
unfolding first states header_of ipv4_checks ipv4_at ipv4_of be be_at part total ones pseudo segment_checks segment_at segment_of carriage_of from lowest has_address
    find_peer
read_d0 = refl

pub read_d1 : header_of listed (part_of frame-d 1).packet ≡ segment 0 (states frame-d 1)
unfolding first states header_of ipv4_checks ipv4_at ipv4_of be be_at part total ones pseudo segment_checks segment_at segment_of carriage_of from lowest has_address
    find_peer
read_d1 = refl

-- ---- what the frames are worth: Context ID 77 is binding 0, tenant 7; the other is binding 1, tenant 8

pub worth_a : (note : Note) → judge_of listed 0 note frame-a.content ≡ good (record { tenant = 7; binding = 0 })
unfolding first judge_of stt_from contradicts carries_transport carries_ipv4 carries_ipv6 stt_checks stt_of be_at inner_from from lowest binds frame_checks frame_of
worth_a note = refl

pub worth_b : (note : Note) → judge_of listed 0 note frame-b.content ≡ good (record { tenant = 8; binding = 1 })
unfolding first judge_of stt_from contradicts carries_transport carries_ipv4 carries_ipv6 stt_checks stt_of be_at inner_from from lowest binds frame_checks frame_of
worth_b note = refl

-- ---- packets of peer 0's own: delivered, and refused (10)

pub read-own : header_of listed own-packet ≡ direct 0 (Ok (R.Delivered (record { tenant = 5; binding = 3 })
    (record { start = 36; length = 14; in_memory = false })))
unfolding first header_of ipv4_checks ipv4_at ipv4_of be be_at part total ones udp_sum udp_checks udp_of vxlan_checks vxlan_at vxlan_of carriage_of from lowest
    has_address find_peer binds inner_from tunnel_from frame_checks frame_of
read-own = refl

pub read-broken : header_of listed broken-packet ≡ direct 0 (Err (D.Format F.TcpChecksum 0))
unfolding first states header_of ipv4_checks ipv4_at ipv4_of be be_at part total ones pseudo segment_checks segment_at segment_of carriage_of from lowest has_address
    find_peer finding_of
read-broken = refl

-- ---- other senders' packets

-- delivered: the frame of 14 bytes behind 36
pub read-vxlan : header_of listed vxlan-packet ≡ direct 1 (Ok (R.Delivered (record { tenant = 9; binding = 2 })
    (record { start = 36; length = 14; in_memory = false })))
unfolding first header_of ipv4_checks ipv4_at ipv4_of be be_at part total ones udp_sum udp_checks udp_of vxlan_checks vxlan_at vxlan_of carriage_of from lowest
    has_address find_peer binds inner_from tunnel_from frame_checks frame_of
read-vxlan = refl

pub read_rival : header_of listed rival_packet ≡ segment 1 (record
    { identifier = 1001; frame_length = 32; offset = 0; bytes = replicate 10 255; mark = no_mark })
unfolding first header_of ipv4_checks ipv4_at ipv4_of be be_at part total ones pseudo segment_checks segment_at segment_of carriage_of from lowest has_address
    find_peer
read_rival = refl

pub read_stray : header_of listed stray_packet ≡ other_sender (Err D.UnknownPeer)
unfolding first header_of ipv4_checks ipv4_at ipv4_of be be_at part total ones pseudo segment_checks segment_at segment_of carriage_of from lowest has_address
    find_peer
read_stray = refl

-- ---- the run is a mixing, as far as it can be told without the packets

pub mixes-frames : mixes frames mixed ≡ true
unfolding all_below mixes
mixes-frames = refl

pub turns-frames : turns 0 frames ≡ turn
unfolding table turns
turns-frames = refl
