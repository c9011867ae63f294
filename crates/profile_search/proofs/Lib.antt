pub mod RecordLaws
pub mod GrowLaws
pub mod BucketLaws
pub mod RisingLaws
pub mod TurnLaws
pub mod SingleLaws
